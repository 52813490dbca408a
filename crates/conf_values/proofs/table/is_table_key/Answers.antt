use Rattle.conf_values.specs.Table.{rows}
use Rattle.conf_values.proofs.table.is_table_key.Goals as goal

pub returns : goal.returns
unfolding rows
returns c = c.is_among.ensures

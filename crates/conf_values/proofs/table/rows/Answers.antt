use Rattle.std.proofs.Common.{refl}
use Rattle.conf_values.specs.Table.{rows}
use Rattle.conf_values.proofs.table.rows.Goals as goal

pub returns : goal.returns
unfolding rows
returns c = refl

use Rattle.std.proofs.Common.{refl}
use Rattle.conf_values.specs.Table.{places}
use Rattle.conf_values.proofs.table.places.Goals as goal

pub returns : goal.returns
unfolding places
returns c = refl

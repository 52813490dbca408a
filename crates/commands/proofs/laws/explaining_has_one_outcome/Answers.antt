use Rattle.commands.proofs.LowerExplaining.{has_some_explained, one_explained}
use Rattle.commands.proofs.laws.explaining_has_one_outcome.Goals as goal

pub returns : goal.returns
returns c = record { one = one_explained; some = has_some_explained }

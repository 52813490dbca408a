use Rattle.commands.proofs.LowerRewriting.{has_some_rewritten, one_rewritten}
use Rattle.commands.proofs.laws.rewriting_has_one_outcome.Goals as goal

pub returns : goal.returns
returns c = record { one = one_rewritten; some = has_some_rewritten }

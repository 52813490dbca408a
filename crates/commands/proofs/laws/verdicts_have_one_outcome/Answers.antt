use Rattle.commands.proofs.Answered.{have_some_outcome}
use Rattle.commands.proofs.OneOutcome.{verdicts_law}
use Rattle.commands.proofs.laws.verdicts_have_one_outcome.Goals as goal

pub returns : goal.returns
returns c = record { some = have_some_outcome; one = verdicts_law }

use Rattle.program.specs.Intake.{taken_of}
use Rattle.program.proofs.Sources.{own_of_verdicts}
use Rattle.program.proofs.over_message.VerifyWordsOverMessage.answer.Goals as goal

pub returns-clause-own : goal.returns-clause-own
returns-clause-own c =
    own_of_verdicts _ _ (taken_of c.args.taken.now).conf (taken_of c.args.taken.now).context c.in_ok-verify_outcome.field-0 c.in_ok-verify_outcome.ensures

use Rattle.program.proofs.IntakeLaws.{intake_answer, intake_decided}
use Rattle.program.proofs.laws.the_intake_is_decided.Goals as goal

pub returns : goal.returns
returns c = record { decided = intake_decided; answer = intake_answer }

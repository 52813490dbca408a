use Rattle.rewrites.proofs.StepKinds.{depends_on_messages}
use Rattle.rewrites.proofs.laws.a_step_rests_on_messages.Goals as goal

pub returns : goal.returns
returns c = depends_on_messages

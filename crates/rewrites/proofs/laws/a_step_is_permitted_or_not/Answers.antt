use Rattle.rewrites.proofs.StepLaws.{permits_or_not}
use Rattle.rewrites.proofs.laws.a_step_is_permitted_or_not.Goals as goal

pub returns : goal.returns
returns c = permits_or_not

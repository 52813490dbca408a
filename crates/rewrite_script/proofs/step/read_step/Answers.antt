use Rattle.rewrite_script.proofs.StepLaws.{step_is}
use Rattle.rewrite_script.proofs.step.read_step.Goals as goal

pub returns-in-Ok-clause-some : goal.returns-in-Ok-clause-some
returns-in-Ok-clause-some c = step_is c.args.line.now c.in-Ok.rewrite c.in-Ok.ensures.0 c.in-Ok.ensures.1

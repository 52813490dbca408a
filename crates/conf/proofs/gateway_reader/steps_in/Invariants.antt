use Rattle.toml.specs.View.{array_view}
use Rattle.conf.proofs.StepLaws.{AreStepsSoFar}
use Rattle.conf.proofs.gateway_reader.steps_in.Given as goal

abbrev pub invariant-loop-value : goal.invariant-loop-value
invariant-loop-value l = AreStepsSoFar l.value-items l.value-index (array_view l.array) l.script

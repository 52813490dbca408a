use Rattle.std.proofs.Common.{length}
use Rattle.component_values.specs.Context.{context_of}
use Rattle.gateway.specs.tools.Walked.{IsOnTheWay}
use Rattle.gateway.proofs.forward.Forwarding.forward.Given as goal

abbrev pub invariant-steps : goal.invariant-steps
invariant-steps l = IsOnTheWay l.self (context_of l.context) l.fn.steps l.given l.left l.met

abbrev pub decreases-steps : goal.decreases-steps
decreases-steps l = length l.left

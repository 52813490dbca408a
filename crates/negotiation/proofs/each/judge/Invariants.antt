use Rattle.std.proofs.Common.{◌+◌}
use Rattle.component_values.specs.Context.{context_of}
use Rattle.negotiation.specs.tools.Signing.{AreSignedSoFar}
use Rattle.negotiation.proofs.each.judge.Given as goal

abbrev pub invariant-loop-index : goal.invariant-loop-index
invariant-loop-index l = AreSignedSoFar (context_of l.context) l.specs (l.index + 1) l.text

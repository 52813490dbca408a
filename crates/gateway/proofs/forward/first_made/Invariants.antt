use Rattle.std.proofs.Common.{take}
use Rattle.std.specs.List.{All}
use Rattle.component_values.specs.Context.{context_of}
use Rattle.gateway.specs.tools.Walked.{IsLeftOut}
use Rattle.gateway.proofs.forward.first_made.Given as goal

abbrev pub invariant-loop-index : goal.invariant-loop-index
invariant-loop-index l = All (IsLeftOut l.accepted (context_of l.context)) (take l.index l.steps)

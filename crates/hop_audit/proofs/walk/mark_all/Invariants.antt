use Rattle.component_values.specs.Context.{MessageContext}
use Rattle.rewrite_script.specs.declared.rewrite.Rewrite.{Rewrite}
use Rattle.rewrites.specs.Conditions.{IsConditionOf}
use Rattle.hop_audit.specs.tools.Walked.{AreMarkedSoFar}
use Rattle.hop_audit.proofs.walk.mark_all.Given as goal

abbrev pub invariant-loop-index : goal.invariant-loop-index
invariant-loop-index l = (context : MessageContext) (step : Rewrite) → IsConditionOf context step l.condition → AreMarkedSoFar context step l.fn.marks l.marks l.index

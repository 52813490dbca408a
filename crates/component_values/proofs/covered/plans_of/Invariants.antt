use Rattle.std.proofs.Common.{map, take}
use Rattle.component_values.specs.Context.{context_of}
use Rattle.component_values.specs.Readings.{AreReadOf}
use Rattle.component_values.specs.Values.{HaveValues}
use Rattle.component_values.specs.tools.Rows.{planned_text}
use Rattle.component_values.proofs.covered.plans_of.Given as goal

abbrev pub invariant-loop-id : goal.invariant-loop-id
invariant-loop-id l =
    HaveValues (context_of l.fn.context) (take l.id-index l.ids) (map planned_text l.plans) × AreReadOf (context_of l.fn.context) l.readings

use Rattle.std.proofs.Common.{take}
use Rattle.component_values.specs.tools.Rows.{field_meant}
use Rattle.component_values.proofs.FieldAnswers.{IsNoneOf}
use Rattle.component_values.proofs.readings.answer_for.Given as goal

abbrev pub invariant-loop-own : goal.invariant-loop-own
invariant-loop-own g l = IsNoneOf (field_meant l.field) (take l.own-index l.answers)

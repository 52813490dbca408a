-- What a step asks of a signature that is to stay, where all is judged that rests on no signature.
use Rattle.std.specs.Prelude.{◌↔◌, ℕ, List}
use Rattle.component_ids.specs.declared.params.SigParams.{SigParams}
use Rattle.component_values.specs.Context.{MessageContext}
use Rattle.rewrite_script.specs.declared.rewrite.Rewrite.{Rewrite}
use Rattle.line_rewrites.specs.Conditions as lines
use Rattle.whole_rewrites.specs.Conditions as whole
use Rattle.rewrites.specs.Permitted.{Permits}
use Rattle.rewrites.specs.declared.permit.StepCondition.{StepCondition}
use Rattle.rewrites.specs.declared.permit.StepCondition.TheVariants.{Lines, Whole}

-- a signature of these parameters meets the condition
abbrev pub IsMetBy : SigParams → StepCondition → Type 0
IsMetBy params (Lines condition) = lines.IsMetBy params condition
IsMetBy params (Whole condition) = whole.IsMetBy params condition

-- it is what the step asks: the signatures that meet it are those that permit the step
abbrev pub IsConditionOf : MessageContext → Rewrite → StepCondition → Type 0
IsConditionOf context step condition = (label : List ℕ) (params : SigParams)
    → IsMetBy params condition ↔ Permits context step label params

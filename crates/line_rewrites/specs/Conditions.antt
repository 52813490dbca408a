-- What a rewriting of field lines asks of a signature that is to stay, where all is judged that
-- rests on no signature.
use Rattle.std.specs.Prelude.{◌↔◌, ⊤, ℕ, IsFalse, List}
use Rattle.std.specs.Str.{str_to_ascii_lowercase}
use Rattle.component_ids.specs.declared.params.SigParams.{SigParams}
use Rattle.component_values.specs.Context.{MessageContext}
use Rattle.rewrite_script.specs.declared.rewrite.LineRewrite.{LineRewrite}
use Rattle.line_rewrites.specs.declared.permit.LineCondition.{LineCondition}
use Rattle.line_rewrites.specs.declared.permit.LineCondition.TheVariants.{Always, Never, FieldUncovered, LinesUncovered}
use Rattle.line_rewrites.specs.Covered.{covers_field, covers_lines}
use Rattle.line_rewrites.specs.Permitted.{PermitsLines}

-- a signature of these parameters meets the condition
abbrev pub IsMetBy : SigParams → LineCondition → Type 0
IsMetBy params Always = ⊤
IsMetBy params Never = ⊥
IsMetBy params (FieldUncovered side name) =
    IsFalse (covers_field side (str_to_ascii_lowercase name.now) params)
IsMetBy params (LinesUncovered side name) =
    IsFalse (covers_lines side (str_to_ascii_lowercase name.now) params)

-- it is what the step asks: the signatures that meet it are those that permit the step
abbrev pub IsLineCondition : MessageContext → LineRewrite → LineCondition → Type 0
IsLineCondition context step condition = (label : List ℕ) (params : SigParams)
    → IsMetBy params condition ↔ PermitsLines context step label params

-- Whether a step gives a message, and whether a signature permits it.
use Rattle.std.specs.Prelude.{◌⊎◌, ℕ, IsTrue, List}
use Rattle.msg_body.specs.Messages.{Message, IsMessage}
use Rattle.component_ids.specs.declared.params.SigParams.{SigParams}
use Rattle.component_values.specs.Context.{MessageContext}
use Rattle.rewrite_script.specs.Lines.{is_line_writable}
use Rattle.rewrite_script.specs.declared.rewrite.LineRewrite.{LineRewrite}
use Rattle.component_values.specs.Context.{answers_head}
use Rattle.line_rewrites.specs.Permitted.{PermitsLines}
use Rattle.line_rewrites.specs.Steps.{LineStep, HasNoLineStep}

-- a step that a line can write gives a message, or isn't applicable
abbrev pub GivesByLinesOrNot : Type 0
GivesByLinesOrNot =
    (context : MessageContext) (step : LineRewrite) → IsTrue (is_line_writable step)
    → IsMessage (answers_head context.related) context.message
    → ((after : Message) × LineStep context step after) ⊎ HasNoLineStep context step

-- a signature permits a step or not
abbrev pub PermitsLinesOrNot : Type 0
PermitsLinesOrNot =
    (context : MessageContext) (step : LineRewrite) (label : List ℕ) (params : SigParams)
    → PermitsLines context step label params ⊎ (¬ PermitsLines context step label params)

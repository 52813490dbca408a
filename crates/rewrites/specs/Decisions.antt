-- Whether a step gives a message, and whether a signature permits it.
use Rattle.std.specs.Prelude.{◌⊎◌, ℕ, IsTrue, List}
use Rattle.msg_body.specs.Messages.{Message, IsMessage}
use Rattle.component_ids.specs.declared.params.SigParams.{SigParams}
use Rattle.component_values.specs.Context.{MessageContext, answers_head}
use Rattle.rewrite_script.specs.Lines.{is_writable}
use Rattle.rewrite_script.specs.declared.rewrite.Rewrite.{Rewrite}
use Rattle.rewrites.specs.Permitted.{Permits}
use Rattle.rewrites.specs.Steps.{Step, IsNotApplicable}

-- a step that a line can write gives a message, or isn't applicable
abbrev pub HasMessageOrNone : Type 0
HasMessageOrNone =
    (context : MessageContext) (step : Rewrite) → IsTrue (is_writable step)
    → IsMessage (answers_head context.related) context.message
    → ((after : Message) × Step context step after) ⊎ IsNotApplicable context step

-- a signature permits a step or not
abbrev pub PermitsOrNot : Type 0
PermitsOrNot =
    (context : MessageContext) (step : Rewrite) (label : List ℕ) (params : SigParams)
    → Permits context step label params ⊎ (¬ Permits context step label params)

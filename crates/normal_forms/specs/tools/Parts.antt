-- The parts of a normal message, as the code makes them. No public clause cites this module.
use Rattle.component_ids.specs.declared.params.SigParams.{SigParams}
use Rattle.component_values.specs.Context.{MessageContext, answers_head}
use Rattle.normal_forms.specs.Steps.{HasNormalSteps, normal_message}
use Rattle.normal_forms.specs.declared.normal.NormalParts.{NormalParts}

-- the steps are those that make the context's message normal, and the lines are those of the normal
-- message
abbrev pub AreNormalParts : MessageContext → SigParams → NormalParts → Type 0
AreNormalParts context params parts =
    HasNormalSteps (answers_head context.related) params context.message parts.steps
    (normal_message (answers_head context.related) context.message parts.header.items
    parts.trailer.items)

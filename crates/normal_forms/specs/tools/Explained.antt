-- What is said of two messages, by its cause. No public clause cites this module.
use Rattle.std.specs.Prelude.{◌≢◌, ℕ, List, Result, Ok, Err}
use Rattle.component_values.specs.Context.{MessageContext}
use Rattle.normal_forms.specs.Causes.{IsExplainCause, IsExplainFault}
use Rattle.normal_forms.specs.Explanations.{Explains}
use Rattle.normal_forms.specs.declared.explanation.Explained.{Explained}
use Rattle.normal_forms.specs.declared.fault.ExplainFault.{ExplainFault}
use Rattle.normal_forms.specs.declared.fault.ExplainFault.TheVariants.{Memory}

-- an explanation and no cause against it, or the first cause
abbrev pub ExplainsMessages : MessageContext → MessageContext → List ℕ
    → Result Explained ExplainFault → Type 0
ExplainsMessages first second label (Ok explained) = Explains first second label explained
    × ((fault : ExplainFault) → ¬ IsExplainCause first second label fault)
ExplainsMessages first second label (Err fault) =
    fault ≢ Memory → IsExplainFault first second label fault

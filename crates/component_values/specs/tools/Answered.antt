-- What is answered of prepared components. No public clause cites this module.
use Rattle.std.specs.Prelude.{◌≡◌, ⊤, List, Result, Ok, Err}
use Rattle.component_ids.specs.declared.id.ComponentId.{ComponentId}
use Rattle.component_ids.specs.declared.params.SigParams.{SigParams}
use Rattle.component_values.specs.declared.fault.ValueFault.{ValueFault}
use Rattle.component_values.specs.declared.fault.ValueFault.TheVariants.{Memory, Lacks}
use Rattle.component_values.specs.declared.prepared.Prepared.{Prepared}
use Rattle.component_values.specs.Context.{MessageContext}
use Rattle.component_values.specs.Values.{HaveValues, IsFirstLack}

-- what a fault says of the components
abbrev pub IsFaultOf : MessageContext → List ComponentId → ValueFault → Type 0
IsFaultOf context ids Memory = ⊤
IsFaultOf context ids (Lacks index lack) = IsFirstLack context ids index lack

-- what an answer says of the components
abbrev pub ExplainsPrepared : MessageContext → SigParams → Result Prepared ValueFault → Type 0
ExplainsPrepared context params (Ok prepared) =
    (prepared.params ≡ params) × HaveValues context params.ids prepared.values
ExplainsPrepared context params (Err fault) = IsFaultOf context params.ids fault

-- What the parts of the reader of the table `gateway` answer. No public clause cites this module.
use Rattle.std.specs.Prelude.{◌≡◌, ⊤, ℕ, true, Option, Some, None, IsTrue, option_and_then, List, [], ◌∷◌, ◌++◌, codes}
use Rattle.std.specs.List.{AllZip, Any}
use Rattle.toml.specs.Data.{Data, Items, Members, as_array, as_str, get_member}
use Rattle.rewrite_script.specs.Lines.{SpellsLine}
use Rattle.rewrite_script.specs.declared.rewrite.Rewrite.{Rewrite}
use Rattle.settings.specs.declared.gateway_conf.GatewayConf.{GatewayConf}
use Rattle.conf.specs.declared.fault.ConfFault.{ConfFault}
use Rattle.conf.specs.declared.fault.ConfFault.TheVariants as fault
use Rattle.conf_values.specs.declared.table.TableName.TheVariants.{Gateway}
use Rattle.conf.specs.Table.{has_place, members_at}
use Rattle.conf_values.specs.Parts.{values_of}
use Rattle.conf_values.specs.Values.{IsBadStep, IsStepText, are_texts}

-- the step of the line comes at the end; without a line nothing changes
abbrev pub AddsLine : Option (List ℕ) → List Rewrite → List Rewrite → Type 0
AddsLine (Some line) old new =
    (step : Rewrite) × SpellsLine line step × (new ≡ old ++ step ∷ [])
AddsLine None old new = new ≡ old

-- the value is a text that says no step
abbrev pub IsStepFault : Data → ConfFault → Type 0
IsStepFault value fault.Memory = ⊤
IsStepFault value (fault.BadScript path) = (path ≡ codes "gateway.steps") × IsBadStep value
IsStepFault value fault = ⊥

-- the steps that the values say, where all of them are texts
abbrev pub AreStepsOf : Items → List Rewrite → Type 0
AreStepsOf items steps = are_texts items ≡ true → AllZip IsStepText (values_of items) steps

-- one of the values is such a text
abbrev pub IsStepsFault : Items → ConfFault → Type 0
IsStepsFault items fault.Memory = ⊤
IsStepsFault items (fault.BadScript path) =
    (path ≡ codes "gateway.steps") × Any IsBadStep (values_of items)
IsStepsFault items fault = ⊥

-- the steps of an array, none where there is none
abbrev pub AreStepsIn : Option Items → List Rewrite → Type 0
AreStepsIn (Some items) steps = AreStepsOf items steps
AreStepsIn None steps = steps ≡ []

-- the steps that the document says
abbrev pub AreReadSteps : Members → List Rewrite → Type 0
AreReadSteps document steps =
    AreStepsIn
    (option_and_then as_array (get_member (codes "steps") (members_at document Gateway)))
    steps

-- the label that the document asks for
abbrev pub label_in : Members → Option (List ℕ)
label_in document =
    option_and_then as_str (get_member (codes "label") (members_at document Gateway))

-- what is read of the table, where the document has it
pub record IsReadGateway (document : Members) (gateway : GatewayConf) : Type 0 where
  pub there : IsTrue (has_place document Gateway)
  pub label : gateway.label ≡ label_in document
  pub steps : AreReadSteps document gateway.steps

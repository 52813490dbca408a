-- What the parts of the code answer. No public clause cites this module.
use Rattle.std.specs.Prelude.{⊤, ℕ, List, Result, Ok, Err}
use Rattle.msg_body.specs.Messages.{Message}
use Rattle.component_ids.specs.declared.fault.IdFault.{IdFault}
use Rattle.component_ids.specs.declared.fault.IdFault.TheVariants as id
use Rattle.signatures.specs.declared.label.LabelFault.{LabelFault}
use Rattle.signatures.specs.declared.label.LabelFault.TheVariants as label
use Rattle.signatures.specs.declared.label.LabelRead.{LabelRead}
use Rattle.signatures.specs.declared.place.Place.{Place}
use Rattle.signatures.specs.declared.place.Place.TheVariants.{None as Nowhere, Index, Component, Name}
use Rattle.signatures.specs.declared.rule.Rule.{Rule}
use Rattle.signatures.specs.declared.rule.Rule.TheVariants.{ComponentsMany, ComponentBad, ComponentRepeated, ParameterBad}
use Rattle.signatures.specs.Signatures.{HasSignature}
use Rattle.signatures.specs.Rules.{IsLabelUnread}

-- the fault of the label, by that of its Inner List
abbrev pub id_fault_of : IdFault → LabelFault
id_fault_of id.Memory = label.Memory
id_fault_of id.TooMany = label.Rule ComponentsMany Nowhere
id_fault_of (id.BadComponent index reason) = label.Rule ComponentBad (Component index reason)
id_fault_of (id.Repeated index) = label.Rule ComponentRepeated (Index index)
id_fault_of (id.BadParameter key) = label.Rule ParameterBad (Name key)

-- what a fault says, by what a failing rule does; out of memory says nothing
abbrev pub SaysRule : (Rule → Place → Type 0) → LabelFault → Type 0
SaysRule FailsSo label.Memory = ⊤
SaysRule FailsSo (label.Rule rule place) = FailsSo rule place

-- what is answered of a label, by what its value and a failing rule say
abbrev pub Explains : {T : Type 0} → (T → Type 0) → (Rule → Place → Type 0) → Result T LabelFault
    → Type 0
Explains Holds FailsSo (Ok value) = Holds value
Explains Holds FailsSo (Err fault) = SaysRule FailsSo fault

-- what an answer says of the label's signature
abbrev pub ExplainsLabel : Message → List ℕ → Result LabelRead LabelFault → Type 0
ExplainsLabel message name result =
    Explains (λ read. HasSignature message name read.params read.tag)
    (IsLabelUnread message name) result

-- What the parts of the code answer. No public clause cites this module.
use Rattle.std.specs.Prelude.{⊤, ℕ, ◌<◌, List, Result, Ok, Err}
use Rattle.component_values.specs.Context.{MessageContext}
use Rattle.component_values.specs.declared.fault.ValueFault.{ValueFault}
use Rattle.component_values.specs.declared.fault.ValueFault.TheVariants as value
use Rattle.signing.specs.Signed.{IsSigned}
use Rattle.signing.specs.SignCauses.{IsSignCause, IsSignFault, sign_order}
use Rattle.signing.specs.declared.fault.SignFault.{SignFault}
use Rattle.signing.specs.declared.fault.SignFault.TheVariants.{Memory, Lacks}
use Rattle.signing.specs.Written.{digest_lines}
use Rattle.signing.specs.declared.lines.AddedLines.{AddedLines}
use Rattle.signing.specs.declared.parts.Parts.{Parts}
use Rattle.signing.specs.declared.spec.SignSpec.{SignSpec}
use Rattle.signing.specs.tools.Lines.{AreLines}
use Rattle.signing.specs.tools.Parts.{ArePartsOf}

-- ---- stages of judging, each by the least number of the causes that are left, as in their order

-- after what the fields of signatures say of the label
abbrev pub fields_judged : ℕ
fields_judged = 5

-- and after components that cover the signature of the label
abbrev pub label_judged : ℕ
label_judged = 6

-- and after limits and values: none is left
abbrev pub all_judged : ℕ
all_judged = 8

-- no cause of a lesser number holds
abbrev pub NoneBelow : MessageContext → SignSpec → ℕ → Type 0
NoneBelow context spec n =
    (fault : SignFault) → sign_order fault < n → ¬ IsSignCause context spec fault

-- what is answered, by what its value says, and else the first cause that holds
abbrev pub ExplainsSign : {T : Type 0} → MessageContext → SignSpec → (T → Type 0)
    → Result T SignFault → Type 0
ExplainsSign context spec Holds (Ok value) = Holds value
ExplainsSign context spec Holds (Err Memory) = ⊤
ExplainsSign context spec Holds (Err fault) = IsSignFault context spec fault

-- the fault of a message whose components aren't prepared
abbrev pub lack_fault_of : ValueFault → SignFault
lack_fault_of value.Memory = Memory
lack_fault_of (value.Lacks index lack) = Lacks index lack

-- These are the parts of the context's message and the line of its digest, and no cause is against
-- the label: limits and values are left to be judged.
pub record AreJudgedParts (context : MessageContext) (spec : SignSpec) (parts : Parts)
    (digest : AddedLines) : Type 0 where
  pub parts_are : ArePartsOf context.message parts
  pub digest_is : AreLines digest (digest_lines context.message spec.digest)
  pub none : NoneBelow context spec label_judged

-- the text is the message's with the tag of the components' values, and no cause holds
pub record IsMade (context : MessageContext) (spec : SignSpec) (text : List ℕ) : Type 0 where
  pub signed : IsSigned context spec text
  pub none : NoneBelow context spec all_judged

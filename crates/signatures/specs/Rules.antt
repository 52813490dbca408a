-- The rules that a label is judged by, as a table: a rule fails so, with this place, exactly where
-- its row holds. These are the rows of rules 1 to 12, by which a label is read (RFC 9421 sections
-- 2.3, 4.1 and 4.2). A row that speaks of what an earlier failure leaves undefined holds only where
-- the earlier rule doesn't fail.
use Rattle.std.specs.Prelude.{◌≡◌, ℕ, None, List}
use Rattle.byte_grammar.specs.Causes.{IsFirst}
use Rattle.sfv_text.specs.Keys.{value_of}
use Rattle.sfv_text.specs.Parts.{byte_sequence_in}
use Rattle.sfv_text.specs.declared.pair.Pair.{Pair}
use Rattle.sfv_text.specs.declared.value.Item.{Item}
use Rattle.sfv_text.specs.declared.value.InnerList.{InnerList}
use Rattle.sfv_text.specs.declared.value.Member.{Member}
use Rattle.sfv_text.specs.declared.value.Member.TheVariants.{Item as ItemMember, InnerList as InnerMember}
use Rattle.msg_body.specs.Messages.{Message}
use Rattle.component_ids.specs.Causes.{IsCause}
use Rattle.component_ids.specs.declared.fault.BadReason.{BadReason}
use Rattle.component_ids.specs.declared.fault.IdFault.{IdFault}
use Rattle.component_ids.specs.declared.fault.IdFault.TheVariants.{TooMany, BadComponent, Repeated, BadParameter}
use Rattle.signatures.specs.declared.rule.Rule.{Rule}
use Rattle.signatures.specs.declared.rule.Rule.TheVariants.{InputAbsent, InputMalformed, SignatureAbsent, SignatureMalformed, LabelNotInInput, LabelNotInSignature, InputNotList, SignatureNotBytes, ComponentsMany, ComponentBad, ComponentRepeated, ParameterBad}
use Rattle.signatures.specs.declared.place.Place.{Place}
use Rattle.signatures.specs.declared.place.Place.TheVariants.{None as Nowhere, Index, Component, Name}
use Rattle.signatures.specs.Signatures.{input_name, signature_name, HasField, HasDict, HasMember}
use Rattle.signatures.specs.Words.{rule_number}

-- the label's Inner List is no signature parameters, and this is a cause (RFC 9421 section 2.3)
abbrev pub ListHasCause : Message → List ℕ → IdFault → Type 0
ListHasCause message label fault =
    (list : InnerList) × HasMember message input_name label (InnerMember list) × IsCause list fault

-- the rows: why the message has no signature of the label
abbrev pub FailsToRead : Message → List ℕ → Rule → Place → Type 0
FailsToRead message label InputAbsent place = (place ≡ Nowhere) × ¬ HasField message input_name
FailsToRead message label InputMalformed place =
    (place ≡ Nowhere) × HasField message input_name
    × ((dict : List (Pair Member)) → ¬ HasDict message input_name dict)
FailsToRead message label SignatureAbsent place =
    (place ≡ Nowhere) × ¬ HasField message signature_name
FailsToRead message label SignatureMalformed place =
    (place ≡ Nowhere) × HasField message signature_name
    × ((dict : List (Pair Member)) → ¬ HasDict message signature_name dict)
FailsToRead message label LabelNotInInput place =
    (place ≡ Nowhere) × (dict : List (Pair Member)) × HasDict message input_name dict
    × (value_of dict label ≡ None)
FailsToRead message label LabelNotInSignature place =
    (place ≡ Nowhere) × (dict : List (Pair Member)) × HasDict message signature_name dict
    × (value_of dict label ≡ None)
FailsToRead message label InputNotList place =
    (place ≡ Nowhere) × (item : Item) × HasMember message input_name label (ItemMember item)
FailsToRead message label SignatureNotBytes place =
    (place ≡ Nowhere) × (member : Member) × HasMember message signature_name label member
    × (byte_sequence_in member ≡ None)
FailsToRead message label ComponentsMany place =
    (place ≡ Nowhere) × ListHasCause message label TooMany
FailsToRead message label ComponentBad place =
    (index : ℕ) × (reason : BadReason) × (place ≡ Component index reason)
    × ListHasCause message label (BadComponent index reason)
FailsToRead message label ComponentRepeated place =
    (index : ℕ) × (place ≡ Index index) × ListHasCause message label (Repeated index)
FailsToRead message label ParameterBad place =
    (key : List ℕ) × (place ≡ Name key) × ListHasCause message label (BadParameter key)
FailsToRead message label rule place = ⊥

-- ---- the first rule that fails

-- a rule, and where it fails
pub record Failure : Type 0 where
  pub rule : Rule
  pub place : Place

-- the number of the rule that fails, by which failures are ordered
abbrev pub failure_number : Failure → ℕ
failure_number failure = rule_number failure.rule

-- the rule fails at the place, and no rule of a lesser number fails
abbrev pub IsFirstFailure : (Rule → Place → Type 0) → Rule → Place → Type 0
IsFirstFailure Table rule place =
    IsFirst failure_number (λ failure. Table failure.rule failure.place)
    (record { rule = rule; place = place })

-- the first of rules 1 to 12 that fails
abbrev pub IsLabelUnread : Message → List ℕ → Rule → Place → Type 0
IsLabelUnread message label rule place = IsFirstFailure (FailsToRead message label) rule place

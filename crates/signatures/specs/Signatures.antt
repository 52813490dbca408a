-- The signatures of a message, by their labels (RFC 9421 sections 4.1 and 4.2).
use Rattle.std.specs.Prelude.{◌≡◌, ◌⊎◌, ℕ, IsTrue, Some, List, [], map, codes}
use Rattle.sfv_text.specs.Parts.{byte_sequence_in}
use Rattle.sfv_text.specs.Keys.{value_of}
use Rattle.sfv_text.specs.declared.pair.Pair.{Pair}
use Rattle.sfv_text.specs.declared.value.Member.{Member}
use Rattle.sfv_text.specs.declared.value.Member.TheVariants.{InnerList as InnerMember}
use Rattle.sfv_read.specs.Reads.{ReadsDict}
use Rattle.msg_head.specs.declared.error.Side.TheVariants.{Header}
use Rattle.msg_body.specs.Messages.{Message}
use Rattle.msg_body.specs.Views.{lines_on}
use Rattle.msg_head.specs.Values.{combined_value, is_there}
use Rattle.component_ids.specs.declared.params.SigParams.{SigParams}
use Rattle.component_ids.specs.SignatureParams.{IsSigParams, list_of}

-- the field that has the covered components and parameters of each signature (section 4.1)
abbrev pub input_name : List ℕ
input_name = codes "signature-input"

-- the field that has the bytes of each signature (section 4.2)
abbrev pub signature_name : List ℕ
signature_name = codes "signature"

-- the header section has a line of that name
abbrev pub HasField : Message → List ℕ → Type 0
HasField message name = IsTrue (is_there (lines_on Header message) name)

-- the message has the field, and its combined value reads as this Dictionary
pub record HasDict (message : Message) (name : List ℕ) (dict : List (Pair Member)) : Type 0 where
  pub there : HasField message name
  pub reads : ReadsDict (combined_value (lines_on Header message) name) dict

-- the Dictionary's member of the label
pub record HasMember (message : Message) (name label : List ℕ) (member : Member) : Type 0 where
  pub dict : List (Pair Member)
  pub has : HasDict message name dict
  pub member_is : value_of dict label ≡ Some member

-- The message has a signature of the label: these signature parameters are the label's Inner List
-- in `Signature-Input`, and the tag is its Byte Sequence in `Signature`.
pub record HasSignature (message : Message) (label : List ℕ) (params : SigParams) (tag : List ℕ)
    : Type 0 where
  pub input : HasMember message input_name label (InnerMember (list_of params))
  pub are : IsSigParams params
  pub member : Member
  pub signature : HasMember message signature_name label member
  pub tag_is : byte_sequence_in member ≡ Some tag

-- the labels of a message: the keys of `Signature-Input` in order, or none where it is no
-- Dictionary
abbrev pub AreLabels : Message → List (List ℕ) → Type 0
AreLabels message labels =
    ((dict : List (Pair Member)) × HasDict message input_name dict
    × (labels ≡ map (λ member. member.key) dict))
    ⊎ (((dict : List (Pair Member)) → ¬ HasDict message input_name dict) × (labels ≡ []))

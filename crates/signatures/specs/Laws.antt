-- Laws of signatures and their labels.
use Rattle.std.specs.Prelude.{◌≡◌, ◌↔◌, ◌⊎◌, ◌≤◌, ℕ, IsTrue, List}
use Rattle.msg_head.specs.declared.error.Side.TheVariants.{Header}
use Rattle.msg_body.specs.Messages.{Message}
use Rattle.msg_body.specs.Views.{lines_on}
use Rattle.msg_body.specs.SameFields.{HasSameField}
use Rattle.component_ids.specs.SignatureParams.{are_sig_params_in_range}
use Rattle.component_ids.specs.declared.params.SigParams.{SigParams}
use Rattle.signatures.specs.declared.place.Place.{Place}
use Rattle.signatures.specs.declared.rule.Rule.{Rule}
use Rattle.signatures.specs.Signatures.{input_name, signature_name, HasSignature, AreLabels}
use Rattle.signatures.specs.Rules.{FailsToRead, IsLabelUnread}
use Rattle.signatures.specs.Words.{rule_number}

-- a message has a list of labels
abbrev pub HasLabels : Type 0
HasLabels = (message : Message) → (labels : List (List ℕ)) × AreLabels message labels

-- a message has at most one list of labels
abbrev pub HasOneListOfLabels : Type 0
HasOneListOfLabels =
    (message : Message) (labels others : List (List ℕ))
    → AreLabels message labels → AreLabels message others → labels ≡ others

-- a message has a signature of the label, or a first rule fails
abbrev pub HasSignatureOrNot : Type 0
HasSignatureOrNot =
    (message : Message) (label : List ℕ)
    → ((params : SigParams) × (tag : List ℕ) × HasSignature message label params tag)
    ⊎ ((rule : Rule) × (place : Place) × IsLabelUnread message label rule place)

-- a message has at most one signature of a label
abbrev pub HasOneSignature : Type 0
HasOneSignature =
    (message : Message) (label : List ℕ) (params others : SigParams) (tag other : List ℕ)
    → HasSignature message label params tag → HasSignature message label others other
    → (params ≡ others) × (tag ≡ other)

-- at most one rule is the first that fails, with one place
abbrev pub IsUnreadByOneRule : Type 0
IsUnreadByOneRule =
    (message : Message) (label : List ℕ) (rule other : Rule) (place another : Place)
    → IsLabelUnread message label rule place → IsLabelUnread message label other another
    → (rule ≡ other) × (place ≡ another)

-- where the message has a signature of the label, no rule of reading fails
abbrev pub HasNoFailureWhereRead : Type 0
HasNoFailureWhereRead =
    (message : Message) (label : List ℕ) (params : SigParams) (tag : List ℕ) (rule : Rule)
    (place : Place) → HasSignature message label params tag
    → ¬ FailsToRead message label rule place

-- the rules of reading are those up to 12
abbrev pub IsUnreadByRulesTo12 : Type 0
IsUnreadByRulesTo12 =
    (message : Message) (label : List ℕ) (rule : Rule) (place : Place)
    → FailsToRead message label rule place → rule_number rule ≤ 12

-- the signature parameters of a message can be written as a structured field
abbrev pub IsSignatureInRange : Type 0
IsSignatureInRange =
    (message : Message) (label : List ℕ) (params : SigParams) (tag : List ℕ)
    → HasSignature message label params tag → IsTrue (are_sig_params_in_range params)

-- ---- the fields that a label is read of

-- the messages have the same fields of signatures
pub record HaveSameFields (message other : Message) : Type 0 where
  pub input : HasSameField (lines_on Header message) (lines_on Header other) input_name
  pub signature : HasSameField (lines_on Header message) (lines_on Header other) signature_name

-- of a label both then have the same signature
abbrev pub HaveSameSignature : Type 0
HaveSameSignature =
    (message other : Message) (label : List ℕ) (params : SigParams) (tag : List ℕ)
    → HaveSameFields message other
    → HasSignature message label params tag ↔ HasSignature other label params tag

-- of a label the same rules of reading fail in both, at the same places
abbrev pub FailToReadTheSame : Type 0
FailToReadTheSame =
    (message other : Message) (label : List ℕ) (rule : Rule) (place : Place)
    → HaveSameFields message other
    → FailsToRead message label rule place ↔ FailsToRead other label rule place

-- ---- the numbers of rules

-- no two rules have one number
abbrev pub HasItsOwnNumber : Type 0
HasItsOwnNumber = (rule other : Rule) → rule_number rule ≡ rule_number other → rule ≡ other

-- the numbers are those from 1 to 34
abbrev pub HasNumber : Type 0
HasNumber = (rule : Rule) → (1 ≤ rule_number rule) × (rule_number rule ≤ 34)

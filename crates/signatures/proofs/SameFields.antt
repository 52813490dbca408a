-- What is read of a label is the same over messages with the same fields of signatures.
use Rattle.std.proofs.Common.{◌≡◌, ℕ, Bool, true, List, sym, subst}
use Rattle.sfv_text.specs.declared.pair.Pair.{Pair}
use Rattle.sfv_text.specs.declared.value.Member.{Member}
use Rattle.sfv_read.specs.Reads.{ReadsDict}
use Rattle.msg_head.specs.declared.error.Side.TheVariants.{Header}
use Rattle.msg_body.specs.Messages.{Message}
use Rattle.msg_body.specs.Views.{lines_on}
use Rattle.msg_body.specs.SameFields.{HasSameField}
use Rattle.component_ids.specs.declared.fault.IdFault.{IdFault}
use Rattle.component_ids.specs.declared.fault.IdFault.TheVariants.{TooMany, BadComponent, Repeated, BadParameter}
use Rattle.component_ids.specs.declared.params.SigParams.{SigParams}
use Rattle.signatures.specs.declared.place.Place.{Place}
use Rattle.signatures.specs.declared.rule.Rule.{Rule}
use Rattle.signatures.specs.declared.rule.Rule.TheVariants.{InputAbsent, InputMalformed, SignatureAbsent, SignatureMalformed, LabelNotInInput, LabelNotInSignature, InputNotList, SignatureNotBytes, ComponentsMany, ComponentBad, ComponentRepeated, ParameterBad}
use Rattle.signatures.specs.Signatures.{input_name, signature_name, HasField, HasDict, HasMember, HasSignature}
use Rattle.signatures.specs.Rules.{ListHasCause, FailsToRead}
use Rattle.signatures.specs.Laws.{HaveSameFields, HaveSameSignature, FailToReadTheSame}

-- ---- a field

same_back : (message other : Message) (name : List ℕ) → HasSameField (lines_on Header message) (lines_on Header other) name → HasSameField (lines_on Header other) (lines_on Header message) name
same_back message other name same = record { there = sym same.there; combined = sym same.combined }

module _ (message other : Message) (name : List ℕ) (same : HasSameField (lines_on Header message) (lines_on Header other) name) where
  has_field : HasField message name → HasField other name
  has_field there = subst (λ (b : Bool). b ≡ true) (sym same.there) there

  has_dict : (dict : List (Pair Member)) → HasDict message name dict → HasDict other name dict
  has_dict dict has = record {
    there = has_field has.there;
    reads = subst (λ (text : List ℕ). ReadsDict text dict) (sym same.combined) has.reads;
  }

  has_member : (label : List ℕ) (member : Member) → HasMember message name label member → HasMember other name label member
  has_member label member has = record { dict = has.dict; has = has_dict has.dict has.has; member_is = has.member_is }

module _ (message other : Message) (name : List ℕ) (same : HasSameField (lines_on Header message) (lines_on Header other) name) where
  no_field : ¬ HasField message name → ¬ HasField other name
  no_field none there = none (has_field other message name (same_back message other name same) there)

  no_dict : ((dict : List (Pair Member)) → ¬ HasDict message name dict) → (dict : List (Pair Member)) → ¬ HasDict other name dict
  no_dict none dict has = none dict (has_dict other message name (same_back message other name same) dict has)

-- ---- a label

module _ (message other : Message) (label : List ℕ) (same : HaveSameFields message other) where
  has_same : (params : SigParams) (tag : List ℕ) → HasSignature message label params tag → HasSignature other label params tag
  has_same params tag has = record {
    input = has_member message other input_name same.input label _ has.input;
    are = has.are;
    member = has.member;
    signature = has_member message other signature_name same.signature label has.member has.signature;
    tag_is = has.tag_is;
  }

  same_cause : (fault : IdFault) → ListHasCause message label fault → ListHasCause other label fault
  same_cause fault cause = (cause.0, has_member message other input_name same.input label _ cause.1, cause.2)

  fails_same : (rule : Rule) (place : Place) → FailsToRead message label rule place → FailsToRead other label rule place
  fails_same InputAbsent place fails = (fails.0, no_field message other input_name same.input fails.1)
  fails_same InputMalformed place fails = (fails.0, has_field message other input_name same.input fails.1, no_dict message other input_name same.input fails.2)
  fails_same SignatureAbsent place fails = (fails.0, no_field message other signature_name same.signature fails.1)
  fails_same SignatureMalformed place fails =
      (fails.0, has_field message other signature_name same.signature fails.1, no_dict message other signature_name same.signature fails.2)
  fails_same LabelNotInInput place fails = (fails.0, fails.1, has_dict message other input_name same.input fails.1 fails.2, fails.3)
  fails_same LabelNotInSignature place fails = (fails.0, fails.1, has_dict message other signature_name same.signature fails.1 fails.2, fails.3)
  fails_same InputNotList place fails = (fails.0, fails.1, has_member message other input_name same.input label _ fails.2)
  fails_same SignatureNotBytes place fails = (fails.0, fails.1, has_member message other signature_name same.signature label fails.1 fails.2, fails.3)
  fails_same ComponentsMany place fails = (fails.0, same_cause TooMany fails.1)
  fails_same ComponentBad place fails = (fails.0, fails.1, fails.2, same_cause (BadComponent fails.0 fails.1) fails.3)
  fails_same ComponentRepeated place fails = (fails.0, fails.1, same_cause (Repeated fails.0) fails.2)
  fails_same ParameterBad place fails = (fails.0, fails.1, same_cause (BadParameter fails.0) fails.2)
  fails_same rule place fails = absurd fails

pub same_fields_back : (message other : Message) → HaveSameFields message other → HaveSameFields other message
same_fields_back message other same = record {
  input = same_back message other input_name same.input;
  signature = same_back message other signature_name same.signature;
}

pub have_same_signature : HaveSameSignature
have_same_signature message other label params tag same =
    (has_same message other label same params tag, has_same other message label (same_fields_back message other same) params tag)

pub fail_to_read_the_same : FailToReadTheSame
fail_to_read_the_same message other label rule place same =
    (fails_same message other label same rule place, fails_same other message label (same_fields_back message other same) rule place)

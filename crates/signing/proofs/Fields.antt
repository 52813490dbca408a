-- The header fields that are Dictionaries, and what they say of a label.
use Rattle.std.proofs.Common.{◌≡◌, ℕ, true, Some, None, List, [], ap, ◌∙◌}
use Rattle.msg_head.specs.Values.{combined_value}
use Rattle.msg_head.specs.declared.error.Side.TheVariants.{Header}
use Rattle.msg_body.specs.Messages.{Message}
use Rattle.msg_body.specs.Views.{lines_on}
use Rattle.sfv_text.specs.Keys.{have_distinct_keys, value_of}
use Rattle.sfv_text.specs.Range.{is_dict_member_in_range}
use Rattle.sfv_read.proofs.InRange.{dict_read_in_range}
use Rattle.std.specs.List.{list_all}
use Rattle.std.proofs.lemmas.Bool.{and_parts}
use Rattle.sfv_text.specs.declared.pair.Pair.{Pair}
use Rattle.sfv_text.specs.declared.value.Member.{Member}
use Rattle.signatures.specs.Signatures.{HasDict, HasMember}
use Rattle.signing.specs.SignCauses.{IsMalformed, HasLabel}
use Rattle.signatures.specs.declared.field.DictField.TheVariants as field
use Rattle.signing.specs.declared.place.LabelPlace.TheVariants as place
use Rattle.signatures.specs.Fields.{IsFieldOf}
use Rattle.signatures.proofs.Reading.{one_dict}
use Rattle.signing.specs.tools.Fields.{IsPlaceIn}

-- the members of a field's Dictionary are in range
pub members_in_range : (message : Message) (name : List ℕ) (dict : List (Pair Member)) → HasDict message name dict → list_all is_dict_member_in_range dict ≡ true
members_in_range message name dict has =
    (and_parts (have_distinct_keys dict) (list_all is_dict_member_in_range dict) (dict_read_in_range (combined_value (lines_on Header message) name) dict has.reads)).1

-- ---- the label

module _ (message : Message) (name label : List ℕ) where
  pub malformed_place : IsFieldOf message name field.Malformed → IsPlaceIn message name label place.Malformed
  malformed_place bad = (bad.0, λ dict has. absurd (bad.1 dict has))

  pub absent_place : IsFieldOf message name field.Absent → IsPlaceIn message name label place.Free
  absent_place none = ((λ there. none there.1.has.there), (λ bad. none bad.0))

  module _ (dict : List (Pair Member)) (has : HasDict message name dict) where
    pub empty_place : dict ≡ [] → IsPlaceIn message name label place.Malformed
    empty_place empty = (has.there, λ other also. one_dict message name other dict also has ∙ empty)

    not_malformed : ¬ (dict ≡ []) → ¬ IsMalformed message name
    not_malformed some bad = some (bad.1 dict has)

    pub taken_place : ¬ (dict ≡ []) → (member : Member) → value_of dict label ≡ Some member → IsPlaceIn message name label place.Taken
    taken_place some member is = ((member, record { dict = dict; has = has; member_is = is }), not_malformed some)

    pub free_place : ¬ (dict ≡ []) → value_of dict label ≡ None → IsPlaceIn message name label place.Free
    free_place some none = (lacks, not_malformed some) where
      lacks : ¬ HasLabel message name label
      lacks there =
          let same = ap (λ (d : List (Pair Member)). value_of d label) (one_dict message name there.1.dict dict there.1.has has) in
          let is = there.1.member_is in
          absurd (cc (same, is, none))

  -- a member of another label, and none of this one
  pub unmentioned_place : (other : List ℕ) (member : Member) → HasMember message name other member → ¬ HasLabel message name label → IsPlaceIn message name label place.Free
  unmentioned_place other member own none = (none, λ bad. let is = own.member_is in let empty = bad.1 own.dict own.has in absurd (cc (is, empty)))

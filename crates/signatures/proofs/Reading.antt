-- Rules 1 to 12: the signature of a label.
use Rattle.std.proofs.Common.{◌≡◌, ◌⊎◌, ◌<◌, ◌+◌, lit<, lit≤, ℕ, zero, suc, nat_lt, true, Option, Some, None, Result, Ok, Err, List, [], map, refl, sym, ap, subst, ◌∙◌, arith, inl, inr}
use Rattle.std.specs.Prelude.{IfOk}
use Rattle.std.proofs.lemmas.Bool.Decides.{nat_tests}
use Rattle.std.proofs.lemmas.Bool.{cases_Bool, cases_order, false≢true}
use Rattle.sfv_text.specs.Keys.{value_of}
use Rattle.sfv_text.specs.declared.pair.Pair.{Pair}
use Rattle.sfv_text.specs.declared.value.Item.{Item}
use Rattle.sfv_text.specs.declared.value.InnerList.{InnerList}
use Rattle.sfv_text.specs.declared.value.Member.{Member}
use Rattle.sfv_text.specs.declared.value.Member.TheVariants.{Item as ItemMember, InnerList as InnerMember}
use Rattle.sfv_read.specs.Reads.{ReadsDict}
use Rattle.sfv_read.proofs.Readings.{dict_has_one_value, dict_is_decided}
use Rattle.msg_head.specs.declared.error.Side.TheVariants.{Header}
use Rattle.msg_body.specs.Messages.{Message}
use Rattle.msg_body.specs.Views.{lines_on}
use Rattle.msg_head.specs.Values.{combined_value, is_there}
use Rattle.byte_grammar.specs.Causes.{AnswersWhere}
use Rattle.component_ids.specs.Causes.{IsCause, IsIdFault, id_order}
use Rattle.component_ids.specs.SignatureParams.{IsParamsOf, list_of}
use Rattle.component_ids.specs.declared.fault.BadReason.{BadReason}
use Rattle.component_ids.specs.declared.fault.IdFault.{IdFault}
use Rattle.component_ids.specs.declared.fault.IdFault.TheVariants.{Memory, TooMany, BadComponent, Repeated, BadParameter}
use Rattle.component_ids.specs.declared.params.SigParams.{SigParams}
use Rattle.component_ids.proofs.FaultLaws.{one_value, one_fault, not_both}
use Rattle.component_ids.proofs.Judged.{has_answer}
use Rattle.signatures.specs.declared.field.DictField.{DictField}
use Rattle.signatures.specs.declared.field.DictField.TheVariants as field
use Rattle.signatures.specs.declared.label.LabelFault.{LabelFault}
use Rattle.signatures.specs.declared.label.LabelFault.TheVariants as label_fault
use Rattle.signatures.specs.declared.label.LabelRead.{LabelRead}
use Rattle.signatures.specs.declared.place.Place.{Place}
use Rattle.signatures.specs.declared.place.Place.TheVariants.{None as Nowhere, Index, Component, Name}
use Rattle.signatures.specs.declared.rule.Rule.{Rule}
use Rattle.signatures.specs.declared.rule.Rule.TheVariants.{InputAbsent, InputMalformed, SignatureAbsent, SignatureMalformed, LabelNotInInput, LabelNotInSignature, InputNotList, SignatureNotBytes, ComponentsMany, ComponentBad, ComponentRepeated, ParameterBad}
use Rattle.sfv_text.specs.Parts.{byte_sequence_in}
use Rattle.signatures.specs.Fields.{IsFieldOf}
use Rattle.signatures.specs.Signatures.{input_name, signature_name, HasField, HasDict, HasMember, HasSignature, AreLabels}
use Rattle.signatures.specs.Rules.{ListHasCause, FailsToRead, IsLabelUnread}
use Rattle.signatures.specs.Words.{rule_number}
use Rattle.signatures.specs.Laws.{HasLabels, HasOneListOfLabels, HasSignatureOrNot, HasOneSignature, IsUnreadByOneRule, HasNoFailureWhereRead, IsUnreadByRulesTo12}
use Rattle.signatures.specs.tools.Answered.{SaysRule, ExplainsLabel, id_fault_of}
use Rattle.signatures.proofs.Numbers.{has_its_own_number, has_number}

-- ---- what is there is there once

pub one_dict : (message : Message) (name : List ℕ) (a b : List (Pair Member)) → HasDict message name a → HasDict message name b → a ≡ b
one_dict message name a b x y = dict_has_one_value (combined_value (lines_on Header message) name) a b x.reads y.reads

some_is : {X : Type 0} (x y : X) → Some x ≡ Some y → x ≡ y
some_is x y e = cc

-- what the label has in the one Dictionary
member_at : (message : Message) (name label : List ℕ) (dict : List (Pair Member)) (member : Member) → HasDict message name dict → HasMember message name label member
    → value_of dict label ≡ Some member
member_at message name label dict member has there =
    ap (λ (d : List (Pair Member)). value_of d label) (one_dict message name dict there.dict has there.has) ∙ there.member_is

pub one_member : (message : Message) (name label : List ℕ) (a b : Member) → HasMember message name label a → HasMember message name label b → a ≡ b
one_member message name label a b x y = some_is a b (sym x.member_is ∙ member_at message name label x.dict b x.has y)

one_inner : (a b : InnerList) → InnerMember a ≡ InnerMember b → a ≡ b
one_inner a b e = cc

pub one_list : (message : Message) (label : List ℕ) (a b : InnerList) → HasMember message input_name label (InnerMember a) → HasMember message input_name label (InnerMember b) → a ≡ b
one_list message label a b x y = one_inner a b (one_member message input_name label (InnerMember a) (InnerMember b) x y)

-- signature parameters have no fault, so no cause of one
causes_below : (list : InnerList) (params : SigParams) → IsParamsOf list params → (n : ℕ) (fault : IdFault) → id_order fault < n → ¬ IsCause list fault
causes_below list params is zero fault lt cause = absurd (omega (arith, lt))
causes_below list params is (suc n) fault lt cause =
    not_both list params fault is (record { holds = cause; none_before = λ other less h. causes_below list params is n other (omega (arith, lt, less)) h })

no_cause : (list : InnerList) (params : SigParams) → IsParamsOf list params → (fault : IdFault) → ¬ IsCause list fault
no_cause list params is fault = causes_below list params is (suc (id_order fault)) fault (omega arith)

module _ (message : Message) (label : List ℕ) where
  -- ---- one rule after another, and the first that fails

  -- no rule of a lesser number fails
  abbrev NoneBelow : ℕ → Type 0
  NoneBelow n = (rule : Rule) (place : Place) → rule_number rule < n → ¬ FailsToRead message label rule place

  none_below_one : NoneBelow 1
  none_below_one rule place lt fails = let number = has_number rule in absurd (omega (arith, lt, number.0))

  -- nor does this one
  nor : (rule : Rule) → NoneBelow (rule_number rule) → ((place : Place) → ¬ FailsToRead message label rule place) → NoneBelow (rule_number rule + 1)
  nor rule below passes other place lt fails = elim (cases_order (rule_number other) (rule_number rule)) [
    | inl same ↦ passes place (subst (λ (r : Rule). FailsToRead message label r place) (has_its_own_number other rule same) fails)
    | inr apart ↦ elim apart [
      | inl less ↦ below other place less fails
      | inr more ↦ absurd (omega (arith, lt, more))
    ]
  ]

  first_failure : (rule : Rule) (place : Place) → NoneBelow (rule_number rule) → FailsToRead message label rule place → IsLabelUnread message label rule place
  first_failure rule place below fails = record { holds = fails; none_before = λ other lt h. below other.rule other.place lt h }

  -- ---- which rules don't fail

  passes_input_absent : HasField message input_name → (place : Place) → ¬ FailsToRead message label InputAbsent place
  passes_input_absent there place fails = fails.1 there

  passes_input_malformed : (dict : List (Pair Member)) → HasDict message input_name dict → (place : Place) → ¬ FailsToRead message label InputMalformed place
  passes_input_malformed dict has place fails = fails.2 dict has

  passes_signature_absent : HasField message signature_name → (place : Place) → ¬ FailsToRead message label SignatureAbsent place
  passes_signature_absent there place fails = fails.1 there

  passes_signature_malformed : (dict : List (Pair Member)) → HasDict message signature_name dict → (place : Place) → ¬ FailsToRead message label SignatureMalformed place
  passes_signature_malformed dict has place fails = fails.2 dict has

  passes_in_input : (member : Member) → HasMember message input_name label member → (place : Place) → ¬ FailsToRead message label LabelNotInInput place
  passes_in_input member has place fails = let there = member_at message input_name label fails.1 member fails.2 has in let none = fails.3 in absurd (cc (there, none))

  passes_in_signature : (member : Member) → HasMember message signature_name label member → (place : Place) → ¬ FailsToRead message label LabelNotInSignature place
  passes_in_signature member has place fails = let there = member_at message signature_name label fails.1 member fails.2 has in let none = fails.3 in absurd (cc (there, none))

  passes_list : (list : InnerList) → HasMember message input_name label (InnerMember list) → (place : Place) → ¬ FailsToRead message label InputNotList place
  passes_list list has place fails = let same = one_member message input_name label (ItemMember fails.1) (InnerMember list) fails.2 has in absurd (cc same)

  passes_bytes : (member : Member) (tag : List ℕ) → HasMember message signature_name label member → byte_sequence_in member ≡ Some tag
      → (place : Place) → ¬ FailsToRead message label SignatureNotBytes place
  passes_bytes member tag has is place fails =
      let same : fails.1 ≡ member = one_member message signature_name label fails.1 member fails.2 has in
      let tags : byte_sequence_in fails.1 ≡ byte_sequence_in member = ap byte_sequence_in same in
      let none = fails.3 in
      absurd (cc (tags, is, none))

  no_cause_of : (list : InnerList) (fault : IdFault) → HasMember message input_name label (InnerMember list) → ¬ IsCause list fault → ¬ ListHasCause message label fault
  no_cause_of list fault has none cause = none (subst (λ (l : InnerList). IsCause l fault) (one_list message label cause.0 list cause.1 has) cause.2)

  -- ---- how far no rule fails

  none_below_2 : HasField message input_name → NoneBelow 2
  none_below_2 there = nor InputAbsent none_below_one (passes_input_absent there)

  none_below_3 : (input : List (Pair Member)) → HasDict message input_name input → NoneBelow 3
  none_below_3 input has = nor InputMalformed (none_below_2 has.there) (passes_input_malformed input has)

  none_below_4 : (input : List (Pair Member)) → HasDict message input_name input → HasField message signature_name → NoneBelow 4
  none_below_4 input has there = nor SignatureAbsent (none_below_3 input has) (passes_signature_absent there)

  none_below_5 : (input signature : List (Pair Member)) → HasDict message input_name input → HasDict message signature_name signature
      → NoneBelow 5
  none_below_5 input signature has also = nor SignatureMalformed (none_below_4 input has also.there) (passes_signature_malformed signature also)

  none_below_6 : (covered : Member) (signature : List (Pair Member)) → HasMember message input_name label covered → HasDict message signature_name signature
      → NoneBelow 6
  none_below_6 covered signature has also = nor LabelNotInInput (none_below_5 has.dict signature has.has also) (passes_in_input covered has)

  none_below_7 : (covered member : Member) → HasMember message input_name label covered → HasMember message signature_name label member
      → NoneBelow 7
  none_below_7 covered member has also = nor LabelNotInSignature (none_below_6 covered also.dict has also.has) (passes_in_signature member also)

  none_below_8 : (list : InnerList) (member : Member) → HasMember message input_name label (InnerMember list) → HasMember message signature_name label member
      → NoneBelow 8
  none_below_8 list member has also = nor InputNotList (none_below_7 (InnerMember list) member has also) (passes_list list has)

  none_below_9 : (list : InnerList) (member : Member) (tag : List ℕ) → HasMember message input_name label (InnerMember list)
      → HasMember message signature_name label member → byte_sequence_in member ≡ Some tag → NoneBelow 9
  none_below_9 list member tag has also is = nor SignatureNotBytes (none_below_8 list member has also) (passes_bytes member tag also is)

  module _ (list : InnerList) (has : HasMember message input_name label (InnerMember list)) (below : NoneBelow 9) where
    none_below_10 : ¬ IsCause list TooMany → NoneBelow 10
    none_below_10 few = nor ComponentsMany below (λ place fails. no_cause_of list TooMany has few fails.1)

    none_below_11 : ¬ IsCause list TooMany → ((index : ℕ) (reason : BadReason) → ¬ IsCause list (BadComponent index reason)) → NoneBelow 11
    none_below_11 few good =
        nor ComponentBad (none_below_10 few)
        (λ place fails. no_cause_of list (BadComponent fails.0 fails.1) has (good fails.0 fails.1) fails.3)

    none_below_12 : ¬ IsCause list TooMany → ((index : ℕ) (reason : BadReason) → ¬ IsCause list (BadComponent index reason)) → ((index : ℕ) → ¬ IsCause list (Repeated index))
        → NoneBelow 12
    none_below_12 few good once =
        nor ComponentRepeated (none_below_11 few good)
        (λ place fails. no_cause_of list (Repeated fails.0) has (once fails.0) fails.2)

    none_below_13 : ((fault : IdFault) → ¬ IsCause list fault) → NoneBelow 13
    none_below_13 none =
        nor ParameterBad (none_below_12 (none TooMany) (λ i r. none (BadComponent i r)) (λ i. none (Repeated i)))
        (λ place fails. no_cause_of list (BadParameter fails.0) has (none (BadParameter fails.0)) fails.2)

    -- the fault of the list is that of the label
    pub list_fails : (fault : IdFault) → IsIdFault list fault → SaysRule (IsLabelUnread message label) (id_fault_of fault)
    list_fails Memory is = tt
    list_fails TooMany is = first_failure ComponentsMany Nowhere below (refl, (list, has, is.holds))
    list_fails (BadComponent i r) is =
        first_failure ComponentBad (Component i r) (none_below_10 (is.none_before TooMany (lit< tt))) (i, r, refl, (list, has, is.holds))
    list_fails (Repeated i) is =
        first_failure ComponentRepeated (Index i)
        (none_below_11 (is.none_before TooMany (lit< tt)) (λ j r. is.none_before (BadComponent j r) (lit< tt))) (i, refl, (list, has, is.holds))
    list_fails (BadParameter key) is =
        first_failure ParameterBad (Name key)
        (none_below_12 (is.none_before TooMany (lit< tt)) (λ j r. is.none_before (BadComponent j r) (lit< tt)) (λ j. is.none_before (Repeated j) (lit< tt)))
        (key, refl, (list, has, is.holds))

  -- why a field is no Dictionary is why the label isn't read
  pub no_input : ¬ HasField message input_name → IsLabelUnread message label InputAbsent Nowhere
  no_input none = first_failure InputAbsent Nowhere none_below_one (refl, none)

  pub bad_input : HasField message input_name × ((dict : List (Pair Member)) → ¬ HasDict message input_name dict) → IsLabelUnread message label InputMalformed Nowhere
  bad_input x = first_failure InputMalformed Nowhere (none_below_2 x.0) (refl, x.0, x.1)

  pub no_signature : (input : List (Pair Member)) → HasDict message input_name input → ¬ HasField message signature_name → IsLabelUnread message label SignatureAbsent Nowhere
  no_signature input has none = first_failure SignatureAbsent Nowhere (none_below_3 input has) (refl, none)

  pub bad_signature : (input : List (Pair Member)) → HasDict message input_name input
      → HasField message signature_name × ((dict : List (Pair Member)) → ¬ HasDict message signature_name dict) → IsLabelUnread message label SignatureMalformed Nowhere
  bad_signature input has x = first_failure SignatureMalformed Nowhere (none_below_4 input has x.0) (refl, x.0, x.1)

  module _ (input signature : List (Pair Member)) (has : HasDict message input_name input) (also : HasDict message signature_name signature) where
    pub not_in_input : value_of input label ≡ None → IsLabelUnread message label LabelNotInInput Nowhere
    not_in_input none = first_failure LabelNotInInput Nowhere (none_below_5 input signature has also) (refl, input, has, none)

    in_input : (covered : Member) → value_of input label ≡ Some covered → HasMember message input_name label covered
    in_input covered is = record { dict = input; has = has; member_is = is }

    in_signature : (member : Member) → value_of signature label ≡ Some member → HasMember message signature_name label member
    in_signature member is = record { dict = signature; has = also; member_is = is }

    pub not_in_signature : (covered : Member) → value_of input label ≡ Some covered → value_of signature label ≡ None → IsLabelUnread message label LabelNotInSignature Nowhere
    not_in_signature covered is none =
        first_failure LabelNotInSignature Nowhere (none_below_6 covered signature (in_input covered is) also) (refl, signature, also, none)

    pub not_a_list : (item : Item) (member : Member) → value_of input label ≡ Some (ItemMember item) → value_of signature label ≡ Some member
        → IsLabelUnread message label InputNotList Nowhere
    not_a_list item member is there =
        first_failure InputNotList Nowhere (none_below_7 (ItemMember item) member (in_input (ItemMember item) is) (in_signature member there))
        (refl, item, in_input (ItemMember item) is)

    pub not_bytes : (list : InnerList) (member : Member) → value_of input label ≡ Some (InnerMember list) → value_of signature label ≡ Some member → byte_sequence_in member ≡ None
        → IsLabelUnread message label SignatureNotBytes Nowhere
    not_bytes list member is there none =
        first_failure SignatureNotBytes Nowhere (none_below_8 list member (in_input (InnerMember list) is) (in_signature member there))
        (refl, member, in_signature member there, none)

    pub no_params : (list : InnerList) (member : Member) (tag : List ℕ) → value_of input label ≡ Some (InnerMember list) → value_of signature label ≡ Some member → byte_sequence_in member ≡ Some tag
        → (fault : IdFault) → IsIdFault list fault → SaysRule (IsLabelUnread message label) (id_fault_of fault)
    no_params list member tag is there bytes =
        list_fails list (in_input (InnerMember list) is) (none_below_9 list member tag (in_input (InnerMember list) is) (in_signature member there) bytes)

    pub is_signature : (list : InnerList) (member : Member) (tag : List ℕ) (params : SigParams) → value_of input label ≡ Some (InnerMember list) → value_of signature label ≡ Some member
        → byte_sequence_in member ≡ Some tag → IsParamsOf list params → HasSignature message label params tag
    is_signature list member tag params is there bytes are = record {
      input = in_input (InnerMember (list_of params)) (is ∙ ap (λ (l : InnerList). Some (InnerMember l)) (sym are.1));
      are = are.0;
      member = member;
      signature = in_signature member there;
      tag_is = bytes;
    }

  -- ---- the laws

  -- no rule up to 12 fails of a signature
  signature_passes : (params : SigParams) (tag : List ℕ) → HasSignature message label params tag → NoneBelow 13
  signature_passes params tag has =
      none_below_13 (list_of params) has.input (none_below_9 (list_of params) has.member tag has.input has.signature has.tag_is)
      (no_cause (list_of params) params (has.are, refl))

pub has_one_signature : HasOneSignature
has_one_signature message label params others tag other a b =
    let lists : list_of params ≡ list_of others = one_list message label (list_of params) (list_of others) a.input b.input in
    let members : a.member ≡ b.member = one_member message signature_name label a.member b.member a.signature b.signature in
    (one_value (list_of others) params others (a.are, lists) (b.are, refl), some_is tag other (sym a.tag_is ∙ (ap byte_sequence_in members ∙ b.tag_is)))

-- ---- one rule is the first, with one place

-- a cause of the list makes a rule fail
cause_fails : (message : Message) (label : List ℕ) (list : InnerList) → HasMember message input_name label (InnerMember list) → (fault : IdFault) → IsCause list fault
    → (rule : Rule) × (place : Place) × (rule_number rule ≡ 9 + id_order fault) × FailsToRead message label rule place
cause_fails message label list has TooMany cause = (ComponentsMany, Nowhere, refl, (refl, (list, has, cause)))
cause_fails message label list has (BadComponent i r) cause = (ComponentBad, Component i r, refl, (i, r, refl, (list, has, cause)))
cause_fails message label list has (Repeated i) cause = (ComponentRepeated, Index i, refl, (i, refl, (list, has, cause)))
cause_fails message label list has (BadParameter key) cause = (ParameterBad, Name key, refl, (key, refl, (list, has, cause)))
cause_fails message label list has Memory cause = absurd cause

-- the cause of a rule that is the first is the first
first_cause : (message : Message) (label : List ℕ) (rule : Rule) (place : Place) (list : InnerList) (fault : IdFault) → HasMember message input_name label (InnerMember list)
    → IsLabelUnread message label rule place → rule_number rule ≡ 9 + id_order fault → IsCause list fault → IsIdFault list fault
first_cause message label rule place list fault has first same cause = record {
  holds = cause;
  none_before = λ other lt h.
      let f = cause_fails message label list has other h in
      first.none_before (record { rule = f.0; place = f.1 }) (omega (arith, f.2, lt, same)) f.3;
}

one_cause : (message : Message) (label : List ℕ) (rule : Rule) (p q : Place) (fault other : IdFault) → IsLabelUnread message label rule p → IsLabelUnread message label rule q
    → rule_number rule ≡ 9 + id_order fault → rule_number rule ≡ 9 + id_order other → ListHasCause message label fault → ListHasCause message label other → fault ≡ other
one_cause message label rule p q fault other a b same also x y =
    let cause : IsCause y.0 fault = subst (λ (l : InnerList). IsCause l fault) (one_list message label x.0 y.0 x.1 y.1) x.2 in
    one_fault y.0 fault other (first_cause message label rule p y.0 fault y.1 a same cause) (first_cause message label rule q y.0 other y.1 b also y.2)

abbrev place_of : IdFault → Place
place_of TooMany = Nowhere
place_of (BadComponent i r) = Component i r
place_of (Repeated i) = Index i
place_of (BadParameter key) = Name key
place_of Memory = Nowhere

one_place : (message : Message) (label : List ℕ) (rule : Rule) (p q : Place) → IsLabelUnread message label rule p → IsLabelUnread message label rule q → p ≡ q
one_place message label InputAbsent p q a b = a.holds.0 ∙ sym b.holds.0
one_place message label InputMalformed p q a b = a.holds.0 ∙ sym b.holds.0
one_place message label SignatureAbsent p q a b = a.holds.0 ∙ sym b.holds.0
one_place message label SignatureMalformed p q a b = a.holds.0 ∙ sym b.holds.0
one_place message label LabelNotInInput p q a b = a.holds.0 ∙ sym b.holds.0
one_place message label LabelNotInSignature p q a b = a.holds.0 ∙ sym b.holds.0
one_place message label InputNotList p q a b = a.holds.0 ∙ sym b.holds.0
one_place message label SignatureNotBytes p q a b = a.holds.0 ∙ sym b.holds.0
one_place message label ComponentsMany p q a b = a.holds.0 ∙ sym b.holds.0
one_place message label ComponentBad p q a b =
    let x = a.holds in let y = b.holds in
    x.2 ∙ (ap place_of (one_cause message label ComponentBad p q (BadComponent x.0 x.1) (BadComponent y.0 y.1) a b refl refl x.3 y.3) ∙ sym y.2)
one_place message label ComponentRepeated p q a b =
    let x = a.holds in let y = b.holds in
    x.1 ∙ (ap place_of (one_cause message label ComponentRepeated p q (Repeated x.0) (Repeated y.0) a b refl refl x.2 y.2) ∙ sym y.1)
one_place message label ParameterBad p q a b =
    let x = a.holds in let y = b.holds in
    x.1 ∙ (ap place_of (one_cause message label ParameterBad p q (BadParameter x.0) (BadParameter y.0) a b refl refl x.2 y.2) ∙ sym y.1)
one_place message label rule p q a b = absurd a.holds

pub is_unread_by_one_rule : IsUnreadByOneRule
is_unread_by_one_rule message label rule other place another a b = elim (cases_order (rule_number rule) (rule_number other)) [
  | inl same ↦
      let rules : rule ≡ other = has_its_own_number rule other same in
      (rules, one_place message label other place another (subst (λ (r : Rule). IsLabelUnread message label r place) rules a) b)
  | inr apart ↦ elim apart [
    | inl less ↦ absurd (b.none_before (record { rule = rule; place = place }) less a.holds)
    | inr more ↦ absurd (a.none_before (record { rule = other; place = another }) more b.holds)
  ]
]

pub is_unread_by_rules_to_12 : IsUnreadByRulesTo12
is_unread_by_rules_to_12 message label InputAbsent place fails = lit≤ tt
is_unread_by_rules_to_12 message label InputMalformed place fails = lit≤ tt
is_unread_by_rules_to_12 message label SignatureAbsent place fails = lit≤ tt
is_unread_by_rules_to_12 message label SignatureMalformed place fails = lit≤ tt
is_unread_by_rules_to_12 message label LabelNotInInput place fails = lit≤ tt
is_unread_by_rules_to_12 message label LabelNotInSignature place fails = lit≤ tt
is_unread_by_rules_to_12 message label InputNotList place fails = lit≤ tt
is_unread_by_rules_to_12 message label SignatureNotBytes place fails = lit≤ tt
is_unread_by_rules_to_12 message label ComponentsMany place fails = lit≤ tt
is_unread_by_rules_to_12 message label ComponentBad place fails = lit≤ tt
is_unread_by_rules_to_12 message label ComponentRepeated place fails = lit≤ tt
is_unread_by_rules_to_12 message label ParameterBad place fails = lit≤ tt
is_unread_by_rules_to_12 message label rule place fails = absurd fails

pub has_no_failure_where_read : HasNoFailureWhereRead
has_no_failure_where_read message label params tag rule place has fails =
    let low = is_unread_by_rules_to_12 message label rule place fails in
    signature_passes message label params tag has rule place (omega (arith, low)) fails

-- ---- a signature, or a rule that fails

-- what there is of the label
abbrev Answer : Message → List ℕ → Type 0
Answer message label =
    ((params : SigParams) × (tag : List ℕ) × HasSignature message label params tag) ⊎ ((rule : Rule) × (place : Place) × IsLabelUnread message label rule place)

says_rule : (message : Message) (label : List ℕ) (fault : LabelFault) → ¬ (fault ≡ label_fault.Memory) → SaysRule (IsLabelUnread message label) fault → Answer message label
says_rule message label label_fault.Memory known says = absurd (known refl)
says_rule message label (label_fault.Rule rule place) known says = inr (rule, place, says)

-- each field is a Dictionary, or none for one reason
pub has_field : (message : Message) (name : List ℕ) → (field : DictField) × IsFieldOf message name field
has_field message name = elim (cases_Bool (is_there (lines_on Header message) name)) [
  | inr none ↦ (field.Absent, λ there. false≢true (sym none ∙ there))
  | inl there ↦ elim (dict_is_decided (combined_value (lines_on Header message) name)) [
    | inl reads ↦ (field.Dict reads.0, record { there = there; reads = reads.1 })
    | inr unread ↦ (field.Malformed, (there, (λ dict has. unread dict has.reads)))
  ]
]

module _ (message : Message) (label : List ℕ) (input signature : List (Pair Member)) (has : HasDict message input_name input) (also : HasDict message signature_name signature) where
  by_params : (list : InnerList) (member : Member) (tag : List ℕ) → value_of input label ≡ Some (InnerMember list) → value_of signature label ≡ Some member → byte_sequence_in member ≡ Some tag
      → ((params : SigParams) × IsParamsOf list params) ⊎ ((fault : IdFault) × IsIdFault list fault) → Answer message label
  by_params list member tag is there bytes (inl params) = inl (params.0, tag, is_signature message label input signature has also list member tag params.0 is there bytes params.1)
  by_params list member tag is there bytes (inr fault) =
      says_rule message label (id_fault_of fault.0) (known fault.0 fault.1) (no_params message label input signature has also list member tag is there bytes fault.0 fault.1)
    where
      known : (f : IdFault) → IsIdFault list f → ¬ (id_fault_of f ≡ label_fault.Memory)
      known TooMany first e = absurd cc
      known (BadComponent i r) first e = absurd cc
      known (Repeated i) first e = absurd cc
      known (BadParameter key) first e = absurd cc
      known Memory first e = absurd first.holds

  by_tag : (list : InnerList) (member : Member) → value_of input label ≡ Some (InnerMember list) → value_of signature label ≡ Some member
      → (tag : Option (List ℕ)) → byte_sequence_in member ≡ tag → Answer message label
  by_tag list member is there (Some tag) bytes = by_params list member tag is there bytes (has_answer list)
  by_tag list member is there None bytes = inr (SignatureNotBytes, Nowhere, not_bytes message label input signature has also list member is there bytes)

  by_covered : (covered member : Member) → value_of input label ≡ Some covered → value_of signature label ≡ Some member → Answer message label
  by_covered (InnerMember list) member is there = by_tag list member is there (byte_sequence_in member) refl
  by_covered (ItemMember item) member is there = inr (InputNotList, Nowhere, not_a_list message label input signature has also item member is there)

  by_members : (covered member : Option Member) → value_of input label ≡ covered → value_of signature label ≡ member → Answer message label
  by_members None member is there = inr (LabelNotInInput, Nowhere, not_in_input message label input signature has also is)
  by_members (Some covered) None is there = inr (LabelNotInSignature, Nowhere, not_in_signature message label input signature has also covered is there)
  by_members (Some covered) (Some member) is there = by_covered covered member is there

by_signature : (message : Message) (label : List ℕ) (input : List (Pair Member)) → HasDict message input_name input → (f : DictField) → IsFieldOf message signature_name f → Answer message label
by_signature message label input has (field.Dict signature) also = by_members message label input signature has also (value_of input label) (value_of signature label) refl refl
by_signature message label input has field.Absent none = inr (SignatureAbsent, Nowhere, no_signature message label input has none)
by_signature message label input has field.Malformed bad = inr (SignatureMalformed, Nowhere, bad_signature message label input has bad)

by_input : (message : Message) (label : List ℕ) → (f : DictField) → IsFieldOf message input_name f → Answer message label
by_input message label (field.Dict input) has = let also = has_field message signature_name in by_signature message label input has also.0 also.1
by_input message label field.Absent none = inr (InputAbsent, Nowhere, no_input message label none)
by_input message label field.Malformed bad = inr (InputMalformed, Nowhere, bad_input message label bad)

pub has_signature_or_not : HasSignatureOrNot
has_signature_or_not message label = let input = has_field message input_name in by_input message label input.0 input.1

-- ---- what the parts of the reader answer

pub positive : (n : ℕ) → ¬ (n ≡ 0) → nat_lt 0 n ≡ true
positive zero some = absurd (some refl)
positive (suc n) some = grind (arith, nat_tests)

-- a text that isn't read is no Dictionary
pub unread_field : (message : Message) (name text : List ℕ) → HasField message name → text ≡ combined_value (lines_on Header message) name
    → ((dict : List (Pair Member)) → ¬ ReadsDict text dict) → IsFieldOf message name field.Malformed
unread_field message name text there is none = (there, λ dict has. none dict (subst (λ (t : List ℕ). ReadsDict t dict) (sym is) has.reads))

-- what isn't read as signature parameters has a fault
abbrev not_params : IdFault → Result SigParams IdFault
not_params fault = Err fault

pub fault_of : (list : InnerList) (fault : IdFault) → ¬ (fault ≡ Memory)
    → ((other : IdFault) → ¬ (other ≡ Memory) → AnswersWhere Memory (not_params fault) other (IsIdFault list other)) → IsIdFault list fault
fault_of list fault known answers = (answers fault known).only refl

pub params_fail : (message : Message) (label : List ℕ) (list : InnerList) (fault : IdFault)
    → ((other : IdFault) → ¬ (other ≡ Memory) → AnswersWhere Memory (not_params fault) other (IsIdFault list other))
    → ((other : IdFault) → IsIdFault list other → SaysRule (IsLabelUnread message label) (id_fault_of other))
    → SaysRule (IsLabelUnread message label) (id_fault_of fault)
params_fail message label list Memory answers says = tt
params_fail message label list TooMany answers says = says TooMany (fault_of list TooMany (λ e. absurd cc) answers)
params_fail message label list (BadComponent i r) answers says = says (BadComponent i r) (fault_of list (BadComponent i r) (λ e. absurd cc) answers)
params_fail message label list (Repeated i) answers says = says (Repeated i) (fault_of list (Repeated i) (λ e. absurd cc) answers)
params_fail message label list (BadParameter key) answers says = says (BadParameter key) (fault_of list (BadParameter key) (λ e. absurd cc) answers)

-- ---- what the reader answers

pub is_read_so : (message : Message) (label : List ℕ) (result : Result LabelRead LabelFault) → ExplainsLabel message label result
    → IfOk result (λ read. HasSignature message label read.params read.tag)
is_read_so message label (Ok read) x = x
is_read_so message label (Err fault) x = tt

pub answers_where : (message : Message) (label : List ℕ) (result : Result LabelRead LabelFault) → ExplainsLabel message label result
    → (rule : Rule) (place : Place) → AnswersWhere label_fault.Memory result (label_fault.Rule rule place) (IsLabelUnread message label rule place)
answers_where message label (Ok read) x rule place = record {
  only = λ e. absurd cc;
  there = λ first. absurd (has_no_failure_where_read message label read.params read.tag rule place x first.holds);
}
answers_where message label (Err label_fault.Memory) x rule place = record { only = λ e. absurd cc; there = λ first. inr refl }
answers_where message label (Err (label_fault.Rule at here)) x rule place = record {
  only = λ e. let r : at ≡ rule = cc in let p : here ≡ place = cc in rw (sym r, sym p) x;
  there = λ first.
      let same = is_unread_by_one_rule message label at rule here place x first in
      inl (rw (same.0, same.1) refl);
}

-- ---- labels

pub are_labels : (message : Message) (f : DictField) → IsFieldOf message input_name f → (labels : List (List ℕ)) × AreLabels message labels
are_labels message (field.Dict dict) has = (map (λ (member : Pair Member). member.key) dict, inl (dict, has, refl))
are_labels message field.Absent none = ([], inr ((λ dict has. none has.there), refl))
are_labels message field.Malformed bad = ([], inr (bad.1, refl))

pub has_labels : HasLabels
has_labels message = let input = has_field message input_name in are_labels message input.0 input.1

pub has_one_list_of_labels : HasOneListOfLabels
has_one_list_of_labels message labels others (inl a) (inl b) =
    a.2 ∙ (ap (map (λ (member : Pair Member). member.key)) (one_dict message input_name a.0 b.0 a.1 b.1) ∙ sym b.2)
has_one_list_of_labels message labels others (inl a) (inr b) = absurd (b.0 a.0 a.1)
has_one_list_of_labels message labels others (inr a) (inl b) = absurd (a.0 b.0 b.1)
has_one_list_of_labels message labels others (inr a) (inr b) = a.1 ∙ sym b.1

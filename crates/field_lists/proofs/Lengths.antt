-- The lengths that fields say.
use Rattle.std.proofs.Common.{◌≡◌, ◌⊎◌, ℕ, Bool, true, false, not, ◌==◌, ◌&&◌, ◌||◌, List, [], ◌∷◌, length, map, refl, sym, ap, subst, ◌∙◌, inl, inr, codes}
use Rattle.std.specs.Prelude.{filter, nat_lt, nat_le}
use Rattle.std.specs.List.{list_all}
use Rattle.std.specs.Str.Parse.{digits_value}
use Rattle.std.proofs.lemmas.Bool.{and_from, and_parts, cases_Bool, cases_eq, eq-eqb, false≢true, leb-true, ne_eqb, not-true, or_cases}
use Rattle.byte_grammar.specs.Classes.{is_digit}
use Rattle.byte_grammar.specs.Language.{AreBytesOf}
use Rattle.msg_head.specs.Values.{value}
use Rattle.framing.specs.Framings.{is_length, are_accepted_lengths}
use Rattle.list_texts.specs.declared.list.Field.{Field}
use Rattle.list_texts.specs.declared.list.FieldList.{FieldList}
use Rattle.field_lists.specs.Controls.{Control, is_without_content}
use Rattle.field_lists.specs.ToCauses.{IsBadLength, IsOtherLength, lengths_of}
use Rattle.field_lists.specs.ToMessages.{has_field}
use Rattle.field_lists.specs.tools.PartViews.{IsWrongLength, is_wrong_length}
use Rattle.field_lists.specs.tools.Sizes.{is_named}
use Rattle.field_lists.proofs.NamedFields.{not_named, some_named}

-- ---- digits

-- a length is made of digits, one to fifteen
pub length_digits : (text : List ℕ) → is_length text ≡ true → AreBytesOf is_digit 1 15 text
length_digits text is =
    let parts = and_parts (nat_lt 0 (length text)) (nat_le (length text) 15 && list_all is_digit text) is in
    let rest = and_parts (nat_le (length text) 15) (list_all is_digit text) parts.1 in record {
      same = refl;
      passes = rest.1;
      least = leb-true 1 (length text) parts.0;
      most = leb-true (length text) 15 rest.0;
    }

-- ---- lengths

abbrev length_name : List ℕ
length_name = codes "content-length"

abbrev values_of : List Field → List (List ℕ)
values_of fields = map (λ field. value field.value) fields

module _ (control : Control) (list : FieldList) where
  -- the causes, over the lengths that are said
  abbrev IsBad : List (List ℕ) → Type 0
  IsBad texts = (are_accepted_lengths texts ≡ false) ⊎ IsOtherLength control list texts

  none_bad : ¬ IsBad []
  none_bad (inl fails) = false≢true (sym fails)
  none_bad (inr other) = other

  -- no length is said
  pub no_length : (others : List Field) → filter (is_named length_name) others ≡ [] → ¬ IsBadLength control others list
  no_length others none bad = none_bad (subst (λ (fs : List Field). IsBad (values_of fs)) none bad)

  -- several are said
  pub two_lengths : (others rest : List Field) (first : Field) → filter (is_named length_name) others ≡ first ∷ filter (is_named length_name) rest → has_field length_name rest ≡ true → IsBadLength control others list
  two_lengths others rest first cut more =
      let next = some_named length_name rest more in
      let both : filter (is_named length_name) others ≡ first ∷ (next.0 ∷ next.1) = cut ∙ ap (λ (fs : List Field). first ∷ fs) next.2 in
      subst (λ (fs : List Field). IsBad (values_of fs)) (sym both) (inl refl)

  -- one is said
  one_length : (others rest : List Field) (first : Field) → filter (is_named length_name) others ≡ first ∷ filter (is_named length_name) rest → has_field length_name rest ≡ false → filter (is_named length_name) others ≡ first ∷ []
  one_length others rest first cut none = cut ∙ ap (λ (fs : List Field). first ∷ fs) (not_named length_name rest none)

  pub wrong_length : (others rest : List Field) (first : Field) → filter (is_named length_name) others ≡ first ∷ filter (is_named length_name) rest → has_field length_name rest ≡ false → IsWrongLength control list (value first.value) → IsBadLength control others list
  wrong_length others rest first cut none wrong = subst (λ (fs : List Field). IsBad (values_of fs)) (sym (one_length others rest first cut none)) wrong

  pub bad_is_wrong : (others rest : List Field) (first : Field) → filter (is_named length_name) others ≡ first ∷ filter (is_named length_name) rest → has_field length_name rest ≡ false → IsBadLength control others list → IsWrongLength control list (value first.value)
  bad_is_wrong others rest first cut none bad = subst (λ (fs : List Field). IsBad (values_of fs)) (one_length others rest first cut none) bad

  other_or_not : (texts : List (List ℕ)) → IsOtherLength control list texts ⊎ ¬ IsOtherLength control list texts
  other_or_not [] = inr (λ other. other)
  other_or_not (text ∷ texts) = elim (cases_Bool (is_without_content control)) [
    | inl without ↦ inr (λ other. false≢true (sym other.1 ∙ without))
    | inr may ↦ elim (cases_eq (digits_value 10 text) (length list.content)) [
      | inl same ↦ inr (λ other. other.0 same)
      | inr apart ↦ inl (apart, may)
    ]
  ]

  pub bad_length_or_not : (others : List Field) → IsBadLength control others list ⊎ ¬ IsBadLength control others list
  bad_length_or_not others = elim (cases_Bool (are_accepted_lengths (lengths_of others))) [
    | inr fails ↦ inl (inl fails)
    | inl accepted ↦ elim (other_or_not (lengths_of others)) [
      | inl other ↦ inl (inr other)
      | inr same ↦ inr (λ bad. elim bad [ inl fails ↦ false≢true (sym fails ∙ accepted) | inr other ↦ same other ])
    ]
  ]

-- ---- a length by itself

module _ (control : Control) (list : FieldList) (text : List ℕ) where
  -- it is another one than the content's
  abbrev is_other : Bool
  is_other = not (digits_value 10 text == length list.content) && not (is_without_content control)

  pub wrong_if : is_wrong_length control list text ≡ true → IsWrongLength control list text
  wrong_if passes = elim (or_cases (not (is_length text)) is_other passes) [
    | inl fails ↦ inl (not-true (is_length text) fails)
    | inr other ↦
        let both = and_parts (not (digits_value 10 text == length list.content)) (not (is_without_content control)) other in
        let apart = not-true (digits_value 10 text == length list.content) both.0 in
        inr (λ e. false≢true (sym apart ∙ eq-eqb (digits_value 10 text) (length list.content) e), not-true (is_without_content control) both.1)
  ]

  pub only_wrong : IsWrongLength control list text → is_wrong_length control list text ≡ true
  only_wrong (inl fails) = ap (λ b. not b || is_other) fails
  only_wrong (inr other) =
      let both = and_from (not (digits_value 10 text == length list.content)) (not (is_without_content control)) (ap not (ne_eqb (digits_value 10 text) (length list.content) other.0)) (ap not other.1) in elim (cases_Bool (is_length text)) [
        | inl is ↦ λ i. not (is i) || both i
        | inr fails ↦ ap (λ b. not b || is_other) fails
      ]

-- the value of the one field that says a length is judged
module _ (control : Control) (list : FieldList) (others rest : List Field) (first : Field) (cut : filter (is_named length_name) others ≡ first ∷ filter (is_named length_name) rest) (none : has_field length_name rest ≡ false)
    (raw text value_text : List ℕ) (raw_is : raw ≡ first.value) (text_is : text ≡ value raw) (value_is : value_text ≡ text) (bad : Bool) (is : bad ≡ is_wrong_length control list value_text) where
  same_text : value_text ≡ value first.value
  same_text = value_is ∙ (text_is ∙ ap value raw_is)

  pub bad_if : bad ≡ true → IsBadLength control others list
  bad_if passes =
      wrong_length control list others rest first cut none (wrong_if control list (value first.value) (ap (is_wrong_length control list) (sym same_text) ∙ (sym is ∙ passes)))

  pub only_bad : IsBadLength control others list → bad ≡ true
  only_bad wrong =
      is ∙ (ap (is_wrong_length control list) same_text ∙ only_wrong control list (value first.value) (bad_is_wrong control list others rest first cut none wrong))

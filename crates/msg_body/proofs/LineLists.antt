-- What changes the values of no name in a list of field lines.
use Rattle.std.proofs.Common.{◌≡◌, ℕ, Bool, true, false, ◌||◌, List, [], ◌∷◌, ◌++◌, refl, sym, ◌∙◌, ap, inl, inr, append_assoc}
use Rattle.std.specs.Prelude.{map, filter, codes}
use Rattle.std.specs.List.{flat_map, join_by}
use Rattle.std.proofs.lemmas.Bool.{cases_Bool, both_ways}
use Rattle.std.proofs.lemmas.Grind.{flat_map-append}
use Rattle.std.proofs.lemmas.List.{append-nil, map-append}
use Rattle.std.proofs.lemmas.List.Elements.{filter-append}
use Rattle.std.proofs.lemmas.List.Folds.{list_any-append}
use Rattle.std.proofs.lemmas.Slice.Eq.{bytes_eq-Decides}
use Rattle.msg_head.specs.Lines.{FieldLine}
use Rattle.msg_head.specs.Names.{has_name}
use Rattle.msg_head.specs.Values.{is_there, value, values}
use Rattle.msg_body.specs.SameFields.{HasSameField, HasSameValues, name_of}
use Rattle.msg_body.specs.FieldLaws.{TakesLineForOther, KeepsOtherNamesAround, ForgetsOrderOfNames, TakesLineForTwo}

-- ---- lists in parts

there_parts : (lines others : List FieldLine) (name : List ℕ) → is_there (lines ++ others) name ≡ (is_there lines name || is_there others name)
there_parts lines others name = list_any-append (has_name name) lines others

values_parts : (lines others : List FieldLine) (name : List ℕ) → values (lines ++ others) name ≡ values lines name ++ values others name
values_parts lines others name =
    ap (λ (ls : List FieldLine). map (λ (line : FieldLine). value line.raw) ls) (filter-append (has_name name) lines others)
    ∙ map-append (λ (line : FieldLine). value line.raw) (filter (has_name name) lines) (filter (has_name name) others)

-- the same between the same lines
around : (before one other after : List FieldLine) (name : List ℕ) → HasSameValues one other name → HasSameValues (before ++ (one ++ after)) (before ++ (other ++ after)) name
around before one other after name is =
    let there : (lines : List FieldLine) → is_there (before ++ (lines ++ after)) name ≡ (is_there before name || (is_there lines name || is_there after name)) =
    λ lines. there_parts before (lines ++ after) name ∙ ap (λ (b : Bool). is_there before name || b) (there_parts lines after name) in
    let parts : (lines : List FieldLine) → values (before ++ (lines ++ after)) name ≡ values before name ++ (values lines name ++ values after name) =
    λ lines. values_parts before (lines ++ after) name ∙ ap (λ (vs : List (List ℕ)). values before name ++ vs) (values_parts lines after name) in
    record {
      there = there other ∙ (ap (λ (b : Bool). is_there before name || (b || is_there after name)) is.there ∙ sym (there one));
      same = parts other ∙ (ap (λ (vs : List (List ℕ)). values before name ++ (vs ++ values after name)) is.same ∙ sym (parts one));
    }

-- ---- a name that lines have, or don't

or_none : (b : Bool) → (b || false) ≡ b
or_none true = refl
or_none false = refl

or_some : (b : Bool) → (b || true) ≡ true
or_some true = refl
or_some false = refl

line_there : (line : FieldLine) (lines : List FieldLine) (name : List ℕ) → has_name name line ≡ true → is_there (line ∷ lines) name ≡ true
line_there line lines name is = rw is refl

line_not_there : (line : FieldLine) (lines : List FieldLine) (name : List ℕ) → has_name name line ≡ false → is_there (line ∷ lines) name ≡ is_there lines name
line_not_there line lines name not = rw not refl

line_value : (line : FieldLine) (lines : List FieldLine) (name : List ℕ) → has_name name line ≡ true → values (line ∷ lines) name ≡ value line.raw ∷ values lines name
line_value line lines name is = rw is refl

no_value : (line : FieldLine) (lines : List FieldLine) (name : List ℕ) → has_name name line ≡ false → values (line ∷ lines) name ≡ values lines name
no_value line lines name not = rw not refl

none_there : (lines : List FieldLine) (name : List ℕ) → is_there lines name ≡ false → values lines name ≡ []
none_there [] name none = refl
none_there (line ∷ lines) name none = elim (cases_Bool (has_name name line)) [
  | inl is ↦ absurd (both_ways (is_there (line ∷ lines) name) none (line_there line lines name is))
  | inr not ↦ no_value line lines name not ∙ none_there lines name (sym (line_not_there line lines name not) ∙ none)
]

name_is : (name : List ℕ) (line : FieldLine) → has_name name line ≡ true → name_of line ≡ name
name_is name line is = (bytes_eq-Decides (name_of line) name).0 is

-- lines of one name have a name or don't
same_name : (line other : FieldLine) (name : List ℕ) (is : Bool) → name_of other ≡ name_of line → has_name name line ≡ is → has_name name other ≡ is
same_name line other name is same has = rw same has

-- ---- one line

one_for_other : (line other : FieldLine) (name : List ℕ) → name_of other ≡ name_of line → value other.raw ≡ value line.raw → HasSameValues (line ∷ []) (other ∷ []) name
one_for_other line other name names texts = elim (cases_Bool (has_name name line)) [
  | inl is ↦
      let also = same_name line other name true names is in
      record {
        there = line_there other [] name also ∙ sym (line_there line [] name is);
        same = line_value other [] name also ∙ (ap (λ (v : List ℕ). v ∷ []) texts ∙ sym (line_value line [] name is));
      }
  | inr not ↦
      let also = same_name line other name false names not in
      record {
        there = line_not_there other [] name also ∙ sym (line_not_there line [] name not);
        same = no_value other [] name also ∙ sym (no_value line [] name not);
      }
]

pub takes_line_for_other : TakesLineForOther
takes_line_for_other before after line other name names texts = around before (line ∷ []) (other ∷ []) after name (one_for_other line other name names texts)

pub keeps_other_names_around : KeepsOtherNamesAround
keeps_other_names_around before after line name not =
    around before [] (line ∷ []) after name (record { there = line_not_there line [] name not; same = no_value line [] name not })

-- ---- the order of lines

passes : (line : FieldLine) (passed : List FieldLine) (name : List ℕ) → is_there passed (name_of line) ≡ false → HasSameValues (line ∷ passed) (passed ++ line ∷ []) name
passes line passed name none = elim (cases_Bool (has_name name line)) [
  | inl is ↦
      let no_other = none_there passed name (ap (is_there passed) (sym (name_is name line is)) ∙ none) in
      record {
        there = there_parts passed (line ∷ []) name
            ∙ (ap (λ (b : Bool). is_there passed name || b) (line_there line [] name is) ∙ (or_some (is_there passed name) ∙ sym (line_there line passed name is)));
        same = values_parts passed (line ∷ []) name
            ∙ (ap (λ (vs : List (List ℕ)). vs ++ values (line ∷ []) name) no_other
            ∙ (line_value line [] name is ∙ (ap (λ (vs : List (List ℕ)). value line.raw ∷ vs) (sym no_other) ∙ sym (line_value line passed name is))));
      }
  | inr not ↦ record {
    there = there_parts passed (line ∷ []) name
        ∙ (ap (λ (b : Bool). is_there passed name || b) (line_not_there line [] name not) ∙ (or_none (is_there passed name) ∙ sym (line_not_there line passed name not)));
    same = values_parts passed (line ∷ []) name
        ∙ (ap (λ (vs : List (List ℕ)). values passed name ++ vs) (no_value line [] name not) ∙ (append-nil (values passed name) ∙ sym (no_value line passed name not)));
  }
]

pub forgets_order_of_names : ForgetsOrderOfNames
forgets_order_of_names before passed after line name none =
    let is = around before (line ∷ passed) (passed ++ line ∷ []) after name (passes line passed name none) in
    let same = append_assoc passed (line ∷ []) after in
    record {
      there = ap (λ (ls : List FieldLine). is_there (before ++ ls) name) (sym same) ∙ is.there;
      same = ap (λ (ls : List FieldLine). values (before ++ ls) name) (sym same) ∙ is.same;
    }

-- ---- two lines

-- the texts joined by a comma and a space
abbrev joined : List (List ℕ) → List ℕ
joined texts = join_by (λ (text : List ℕ). text) (codes ", ") texts

-- the texts, each after these
abbrev further : List (List ℕ) → List ℕ
further texts = flat_map (λ (text : List ℕ). codes ", " ++ text) texts

two_joined : (before after : List (List ℕ)) (one other : List ℕ) → joined (before ++ one ∷ other ∷ after) ≡ joined (before ++ (one ++ (codes ", " ++ other)) ∷ after)
two_joined [] after one other = sym (append_assoc one (codes ", " ++ other) (further after))
two_joined (first ∷ before) after one other =
    let texts : further (one ∷ other ∷ after) ≡ further ((one ++ (codes ", " ++ other)) ∷ after) =
    ap (λ (t : List ℕ). codes ", " ++ t) (sym (append_assoc one (codes ", " ++ other) (further after))) in
    ap (λ (t : List ℕ). first ++ t)
    (flat_map-append (λ (text : List ℕ). codes ", " ++ text) before (one ∷ other ∷ after)
    ∙ (ap (λ (t : List ℕ). further before ++ t) texts ∙ sym (flat_map-append (λ (text : List ℕ). codes ", " ++ text) before ((one ++ (codes ", " ++ other)) ∷ after))))

module _ (before between after : List FieldLine) (line one other : FieldLine) (name : List ℕ)
    (names : name_of one ≡ name_of line) (other_names : name_of other ≡ name_of line) (none : is_there between (name_of line) ≡ false)
    (texts : value line.raw ≡ value one.raw ++ (codes ", " ++ value other.raw)) where
  -- a name that they don't have
  keeps_values : has_name name line ≡ false → HasSameValues (before ++ one ∷ (between ++ other ∷ after)) (before ++ line ∷ (between ++ after)) name
  keeps_values not =
      let not_one = same_name line one name false names not in
      let not_other = same_name line other name false other_names not in
      let rest = keeps_other_names_around between after other name not_other in
      record {
        there = there_parts before (line ∷ (between ++ after)) name
            ∙ (ap (λ (b : Bool). is_there before name || b)
            (line_not_there line (between ++ after) name not ∙ (sym rest.there ∙ sym (line_not_there one (between ++ other ∷ after) name not_one)))
            ∙ sym (there_parts before (one ∷ (between ++ other ∷ after)) name));
        same = values_parts before (line ∷ (between ++ after)) name
            ∙ (ap (λ (vs : List (List ℕ)). values before name ++ vs)
            (no_value line (between ++ after) name not ∙ (sym rest.same ∙ sym (no_value one (between ++ other ∷ after) name not_one)))
            ∙ sym (values_parts before (one ∷ (between ++ other ∷ after)) name));
      }

  -- their name
  keeps_combined : has_name name line ≡ true → HasSameField (before ++ one ∷ (between ++ other ∷ after)) (before ++ line ∷ (between ++ after)) name
  keeps_combined is =
      let is_one = same_name line one name true names is in
      let is_other = same_name line other name true other_names is in
      let no_value_between = none_there between name (ap (is_there between) (sym (name_is name line is)) ∙ none) in
      let alone : (rest : List FieldLine) → values (between ++ rest) name ≡ values rest name =
      λ rest. values_parts between rest name ∙ ap (λ (vs : List (List ℕ)). vs ++ values rest name) no_value_between in
      let of_line : values (before ++ line ∷ (between ++ after)) name ≡ values before name ++ value line.raw ∷ values after name =
      values_parts before (line ∷ (between ++ after)) name
      ∙ ap (λ (vs : List (List ℕ)). values before name ++ vs) (line_value line (between ++ after) name is ∙ ap (λ (vs : List (List ℕ)). value line.raw ∷ vs) (alone after)) in
      let of_two : values (before ++ one ∷ (between ++ other ∷ after)) name ≡ values before name ++ value one.raw ∷ value other.raw ∷ values after name =
      values_parts before (one ∷ (between ++ other ∷ after)) name
      ∙ ap (λ (vs : List (List ℕ)). values before name ++ vs)
      (line_value one (between ++ other ∷ after) name is_one
      ∙ ap (λ (vs : List (List ℕ)). value one.raw ∷ vs) (alone (other ∷ after) ∙ line_value other after name is_other)) in
      record {
        there = there_parts before (line ∷ (between ++ after)) name
            ∙ (ap (λ (b : Bool). is_there before name || b) (line_there line (between ++ after) name is ∙ sym (line_there one (between ++ other ∷ after) name is_one))
            ∙ sym (there_parts before (one ∷ (between ++ other ∷ after)) name));
        combined = ap joined of_line
            ∙ (ap (λ (v : List ℕ). joined (values before name ++ v ∷ values after name)) texts
            ∙ (sym (two_joined (values before name) (values after name) (value one.raw) (value other.raw)) ∙ ap joined (sym of_two)));
      }

  keeps_field : HasSameField (before ++ one ∷ (between ++ other ∷ after)) (before ++ line ∷ (between ++ after)) name
  keeps_field = elim (cases_Bool (has_name name line)) [
    | inl is ↦ keeps_combined is
    | inr not ↦ let same = keeps_values not in
        record { there = same.there; combined = ap joined same.same }
  ]

pub takes_line_for_two : TakesLineForTwo
takes_line_for_two before between after line one other names other_names none texts name = (
  keeps_field before between after line one other name names other_names none texts,
  keeps_values before between after line one other name names other_names none texts,
)

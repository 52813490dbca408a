-- The ends of strict texts.
use Rattle.std.proofs.Common.{◌≡◌, ℕ, Bool, true, false, not, eqb, List, [], ◌∷◌, ◌++◌, Some, None, codes, refl, sym, ap, subst, ◌∙◌, append_assoc, arith, inl, inr}
use Rattle.std.specs.Prelude.{reverse}
use Rattle.std.specs.List.{list_all, flat_map, join_by}
use Rattle.std.proofs.lemmas.Bool.{and_parts, and_from, cases_Bool, eqb-true, not-true, or_cases}
use Rattle.std.proofs.lemmas.Bool.Decides.{nat_tests}
use Rattle.std.proofs.lemmas.List.{append-nil, reverse-append}
use Rattle.byte_grammar.specs.Classes.{is_blank}
use Rattle.byte_grammar.specs.Language.{starts_in}
use Rattle.byte_grammar.proofs.ChoiceLaws.{Starts}
use Rattle.sfv_text.specs.Keys.{have_distinct_keys}
use Rattle.sfv_text.specs.Range.{is_dict_member_in_range, is_item_in_range, is_member_in_range, is_list_in_range, is_dict_in_range, is_key, is_key_first, is_key_rest, is_bare_in_range, are_params_in_range}
use Rattle.sfv_text.specs.Strict.{bare_text, dict_item_text, dict_member_text, dict_text, dict_value_text, inner_text, item_text, list_text, member_text, params_text}
use Rattle.sfv_text.specs.declared.pair.Pair.{Pair}
use Rattle.sfv_text.specs.declared.value.BareItem.{BareItem}
use Rattle.sfv_text.specs.declared.value.BareItem.TheVariants.{Bool as Boolean}
use Rattle.sfv_text.specs.declared.value.Item.{Item}
use Rattle.sfv_text.specs.declared.value.Member.{Member}
use Rattle.sfv_text.specs.declared.value.Member.TheVariants.{Item as ItemMember, InnerList as InnerMember}
use Rattle.sfv_read.specs.BareItem.{IsBareItem}
use Rattle.sfv_read.specs.declared.bare.BareKind.{BareKind}
use Rattle.sfv_read.specs.tools.BareWalk.{kind_of_bare_item}
use Rattle.sfv_read.proofs.BareItems.{bare_starts, none_some}
use Rattle.sfv_read.proofs.InRange.{item_read_in_range, list_read_in_range, dict_read_in_range}
use Rattle.sfv_read.proofs.MoreMembers.{strict_ends}
use Rattle.sfv_read.proofs.StrictReads.{bare_reads}
use Rattle.component_ids.specs.declared.types.FieldKind.TheVariants as kind
use Rattle.component_values.specs.Laws.{HasNoBlankEnds}

-- ---- texts

abbrev is_solid : ℕ → Bool
is_solid c = not (is_blank c)

-- the text begins with a byte that is no blank
abbrev Begins : List ℕ → Type 0
Begins text = starts_in is_solid text ≡ true

-- it ends with one
abbrev Ends : List ℕ → Type 0
Ends text = Begins (reverse text)

begins_before : (text more : List ℕ) → Begins text → Begins (text ++ more)
begins_before [] more is = absurd cc
begins_before (c ∷ text) more is = is

ends_after : (front text : List ℕ) → Ends text → Ends (front ++ text)
ends_after front text is = subst Begins (sym (reverse-append front text)) (begins_before (reverse text) (reverse front) is)

no_blank_first : (text : List ℕ) → Begins text → starts_in is_blank text ≡ false
no_blank_first [] is = refl
no_blank_first (c ∷ text) is = not-true (is_blank c) is

-- what comes before the text may be another
ends_anew : (front other text : List ℕ) → Ends front → starts_in is_blank (reverse (other ++ text)) ≡ false → Ends (front ++ text)
ends_anew front other text ends is = subst Begins (sym (reverse-append front text)) (by (reverse text) (ap (starts_in is_blank) (sym (reverse-append other text)) ∙ is))
  where
    by : (back : List ℕ) → starts_in is_blank (back ++ reverse other) ≡ false → Begins (back ++ reverse front)
    by [] is = ends
    by (c ∷ back) is = rw is refl

ends_alone : (other text : List ℕ) → Begins text → starts_in is_blank (reverse (other ++ text)) ≡ false → Ends text
ends_alone other [] begins is = absurd cc
ends_alone other (c ∷ text) begins is =
    ends_anew (c ∷ []) (other ++ c ∷ []) text begins (subst (λ (whole : List ℕ). starts_in is_blank (reverse whole) ≡ false) (sym (append_assoc other (c ∷ []) text)) is)

-- ---- texts that are joined by commas

module _ {X : Type 0} (f : X → List ℕ) (test : X → Bool) (begins : (x : X) → test x ≡ true → Begins (f x)) (ends : (x : X) → test x ≡ true → Ends (f x)) where
  more_ends : (front : List ℕ) → Ends front → (xs : List X) → list_all test xs ≡ true → Ends (front ++ flat_map (λ x. codes ", " ++ f x) xs)
  more_ends front is [] all = subst Ends (sym (append-nil front)) is
  more_ends front is (x ∷ xs) all =
      let both = and_parts (test x) (list_all test xs) all in
      let next = codes ", " ++ f x in
      subst Ends (append_assoc front next (flat_map (λ x. codes ", " ++ f x) xs)) (more_ends (front ++ next) (ends_after front next (ends_after (codes ", ") (f x) (ends x both.0))) xs both.1)

  joined_ends : (xs : List X) → list_all test xs ≡ true → (starts_in is_blank (join_by f (codes ", ") xs) ≡ false) × (starts_in is_blank (reverse (join_by f (codes ", ") xs)) ≡ false)
  joined_ends [] all = (refl, refl)
  joined_ends (x ∷ xs) all =
      let both = and_parts (test x) (list_all test xs) all in
      let text = join_by f (codes ", ") (x ∷ xs) in
      (no_blank_first text (begins_before (f x) (flat_map (λ x. codes ", " ++ f x) xs) (begins x both.0)), no_blank_first (reverse text) (more_ends (f x) (ends x both.0) xs both.1))

-- ---- bare items

key_solid : (c : ℕ) → is_key_first c ≡ true → is_solid c ≡ true
key_solid c is = grind (arith, nat_tests)

-- no bare item begins with a blank
kind_solid : (kind : BareKind) (c : ℕ) → kind_of_bare_item c ≡ Some kind → is_solid c ≡ true
kind_solid kind c is = elim (cases_Bool (is_blank c)) [
  | inr solid ↦ rw solid refl
  | inl blank ↦ elim (or_cases (eqb c 32) (eqb c 9) blank) [
    | inl space ↦ absurd (none_some kind (ap kind_of_bare_item (sym (eqb-true c 32 space)) ∙ is))
    | inr tab ↦ absurd (none_some kind (ap kind_of_bare_item (sym (eqb-true c 9 tab)) ∙ is))
  ]
]

bare_begins : (text : List ℕ) (bare : BareItem) → IsBareItem text bare → Begins text
bare_begins text bare h = by text (bare_starts is_solid kind_solid text bare h)
  where
    by : (t : List ℕ) → Starts is_solid t → Begins t
    by [] is = absurd is
    by (c ∷ t) is = is

-- ---- Items and Inner Lists

item_begins : (item : Item) → is_item_in_range item ≡ true → Begins (item_text item)
item_begins item is =
    let bare = (and_parts (is_bare_in_range item.bare) (are_params_in_range item.params) is).0 in
    begins_before (bare_text item.bare) (params_text item.params) (bare_begins (bare_text item.bare) item.bare (bare_reads item.bare bare))

member_begins : (member : Member) → is_member_in_range member ≡ true → Begins (member_text member)
member_begins (ItemMember item) is = item_begins item is
member_begins (InnerMember inner) is = refl

-- a member ends as it does in a Dictionary, under a key
ends_under_key : (member : Member) → is_member_in_range member ≡ true → starts_in is_blank (reverse (codes "a" ++ dict_value_text member)) ≡ false
ends_under_key member is = (strict_ends (record { key = codes "a"; value = member }) (and_from _ _ refl is)).1

bare_ends : (bare : BareItem) (params : List (Pair BareItem)) → Begins (bare_text bare ++ params_text params) → starts_in is_blank (reverse (codes "a" ++ dict_item_text bare params)) ≡ false
    → Ends (bare_text bare ++ params_text params)
bare_ends (Boolean true) params begins is = ends_anew (codes "?1") (codes "a") (params_text params) refl is
bare_ends bare params begins is = ends_alone (codes "a=") (bare_text bare ++ params_text params) begins is

member_ends : (member : Member) → is_member_in_range member ≡ true → Ends (member_text member)
member_ends (ItemMember item) is = bare_ends item.bare item.params (item_begins item is) (ends_under_key (ItemMember item) is)
member_ends (InnerMember inner) is = ends_alone (codes "a=") (inner_text inner) refl (ends_under_key (InnerMember inner) is)

-- ---- members of Dictionaries

key_begins : (key : List ℕ) → is_key key ≡ true → Begins key
key_begins [] is = absurd cc
key_begins (c ∷ key) is = key_solid c (and_parts (is_key_first c) (list_all is_key_rest key) is).0

entry_begins : (entry : Pair Member) → is_dict_member_in_range entry ≡ true → Begins (dict_member_text entry)
entry_begins entry is = begins_before entry.key (dict_value_text entry.value) (key_begins entry.key (and_parts (is_key entry.key) (is_member_in_range entry.value) is).0)

entry_ends : (entry : Pair Member) → is_dict_member_in_range entry ≡ true → Ends (dict_member_text entry)
entry_ends entry is = ends_alone [] (dict_member_text entry) (entry_begins entry is) (strict_ends entry is).1

-- ---- the law

abbrev HasEnds : List ℕ → Type 0
HasEnds text = (starts_in is_blank text ≡ false) × (starts_in is_blank (reverse text) ≡ false)

item_text_ends : (item : Item) → is_item_in_range item ≡ true → HasEnds (item_text item)
item_text_ends item is = (no_blank_first (item_text item) (item_begins item is), no_blank_first (reverse (item_text item)) (member_ends (ItemMember item) is))

list_text_ends : (list : List Member) → is_list_in_range list ≡ true → HasEnds (list_text list)
list_text_ends list is = joined_ends member_text is_member_in_range member_begins member_ends list is

dict_text_ends : (dict : List (Pair Member)) → is_dict_in_range dict ≡ true → HasEnds (dict_text dict)
dict_text_ends dict is = joined_ends dict_member_text is_dict_member_in_range entry_begins entry_ends dict (and_parts (have_distinct_keys dict) (list_all is_dict_member_in_range dict) is).1

pub has_no_blank_ends : HasNoBlankEnds
has_no_blank_ends (Some kind.Item) text strict row = subst HasEnds (sym row.2) (item_text_ends row.0 (item_read_in_range text row.0 row.1))
has_no_blank_ends (Some kind.List) text strict row = subst HasEnds (sym row.2) (list_text_ends row.0 (list_read_in_range text row.0 row.1))
has_no_blank_ends (Some kind.Dictionary) text strict row = subst HasEnds (sym row.2) (dict_text_ends row.0 (dict_read_in_range text row.0 row.1))
has_no_blank_ends None text strict row = absurd cc

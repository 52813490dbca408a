-- What changes no value, and the values of parts and of joined values.
use Rattle.std.proofs.Common.{◌≡◌, ◌⊎◌, ℕ, Bool, true, false, not, List, [], ◌∷◌, ◌++◌, refl, sym, ◌∙◌, ap, inl, inr, append_assoc}
use Rattle.std.specs.Prelude.{reverse, codes}
use Rattle.std.specs.List.{list_all}
use Rattle.std.specs.Str.{byte}
use Rattle.std.proofs.lemmas.Bool.{cases_Bool, false≢true, and_parts, and_from, or_parts, or_right, not-true}
use Rattle.std.proofs.lemmas.List.{append-nil, reverse-append, reverse-reverse}
use Rattle.std.proofs.lemmas.List.Folds.{list_all-append}
use Rattle.std.proofs.Math.Seq.{append_snoc}
use Rattle.byte_grammar.specs.Classes.{is_blank}
use Rattle.byte_grammar.specs.Language.{starts_in}
use Rattle.msg_head.specs.Values.{has_bytes, is_end, value}
use Rattle.msg_body.specs.Spacing.{ends_in, is_solid, is_spacing}
use Rattle.msg_body.specs.FieldLaws.{ForgetsSpacingAtEnds, TakesFoldForSpace, IsValueOfParts, HasNoBlankAtEnds, IsValueOfItself, IsValueOfJoined}
use Rattle.msg_body.proofs.ValueWalk.{Gap, at_start, blanks, folded, gap_text, wider, walk, walk_spacing, walk_solid, value_walk}

-- ---- the walk over spacing

-- the gap and further spacing
abbrev widest : Gap → List ℕ → Gap
widest gap [] = gap
widest gap (c ∷ rest) = widest (wider gap c) rest

walk_gap : (gap : Gap) (spacing rest : List ℕ) → list_all is_spacing spacing ≡ true → walk gap (spacing ++ rest) ≡ walk (widest gap spacing) rest
walk_gap gap [] rest all = refl
walk_gap gap (c ∷ spacing) rest all =
    let both = and_parts (is_spacing c) (list_all is_spacing spacing) all in
    walk_spacing gap c (spacing ++ rest) both.0 ∙ walk_gap (wider gap c) spacing rest both.1

stays_at_start : (spacing : List ℕ) → widest at_start spacing ≡ at_start
stays_at_start [] = refl
stays_at_start (c ∷ spacing) = stays_at_start spacing

stays_folded : (spacing : List ℕ) → widest folded spacing ≡ folded
stays_folded [] = refl
stays_folded (c ∷ spacing) = stays_folded spacing

-- blanks with an end after them are a fold, and others are more blanks
end_folds : (gap : List ℕ) (c : ℕ) → is_end c ≡ true → wider (blanks gap) c ≡ folded
end_folds gap c is = rw is refl

blank_widens : (gap : List ℕ) (c : ℕ) → is_end c ≡ false → wider (blanks gap) c ≡ blanks (gap ++ c ∷ [])
blank_widens gap c not = rw not refl

is_folded : (gap first : List ℕ) (c : ℕ) (last : List ℕ) → is_end c ≡ true → widest (blanks gap) (first ++ c ∷ last) ≡ folded
is_folded gap [] c last is = ap (λ (g : Gap). widest g last) (end_folds gap c is) ∙ stays_folded last
is_folded gap (d ∷ first) c last is = elim (cases_Bool (is_end d)) [
  | inl end ↦ ap (λ (g : Gap). widest g (first ++ c ∷ last)) (end_folds gap d end) ∙ stays_folded (first ++ c ∷ last)
  | inr no_end ↦ ap (λ (g : Gap). widest g (first ++ c ∷ last)) (blank_widens gap d no_end) ∙ is_folded (gap ++ d ∷ []) first c last is
]

nothing_left : (gap : Gap) (spacing : List ℕ) → list_all is_spacing spacing ≡ true → walk gap spacing ≡ []
nothing_left gap spacing all = ap (walk gap) (sym (append-nil spacing)) ∙ walk_gap gap spacing [] all

spacing_last : (gap : Gap) (text after : List ℕ) → list_all is_spacing after ≡ true → walk gap (text ++ after) ≡ walk gap text
spacing_last gap [] after all = nothing_left gap after all
spacing_last gap (c ∷ text) after all = elim (cases_Bool (is_spacing c)) [
  | inl is ↦ walk_spacing gap c (text ++ after) is ∙ (spacing_last (wider gap c) text after all ∙ sym (walk_spacing gap c text is))
  | inr solid ↦ walk_solid gap c (text ++ after) solid
      ∙ (ap (λ (t : List ℕ). gap_text gap ++ c ∷ t) (spacing_last (blanks []) text after all) ∙ sym (walk_solid gap c text solid))
]

from_start : (spacing rest : List ℕ) → list_all is_spacing spacing ≡ true → walk at_start (spacing ++ rest) ≡ walk at_start rest
from_start spacing rest all = walk_gap at_start spacing rest all ∙ ap (λ (g : Gap). walk g rest) (stays_at_start spacing)

pub forgets_spacing_at_ends : ForgetsSpacingAtEnds
forgets_spacing_at_ends before text after all_before all_after =
    value_walk (before ++ (text ++ after))
    ∙ (from_start before (text ++ after) all_before ∙ (spacing_last at_start text after all_after ∙ sym (value_walk text)))

-- ---- the last byte of a text

-- the text is empty or has a last byte, and ends in what that one is in
last_byte : (class : ℕ → Bool) (text : List ℕ)
    → (text ≡ []) ⊎ ((before : List ℕ) × (x : ℕ) × (text ≡ before ++ x ∷ []) × (ends_in class text ≡ class x))
last_byte class text =
    elim (reverse text) as (λ r. reverse text ≡ r → (text ≡ []) ⊎ ((before : List ℕ) × (x : ℕ) × (text ≡ before ++ x ∷ []) × (ends_in class text ≡ class x))) [
      | [] ↦ λ e. inl (sym (reverse-reverse text) ∙ ap reverse e)
      | x ∷ r ↦ λ e. inr (reverse r, x, sym (reverse-reverse text) ∙ (ap reverse e ∙ reverse-append (x ∷ []) r), ap (starts_in class) e)
    ] refl

-- ---- the walk over a solid byte

walk_parts : (gap : Gap) (before : List ℕ) (x : ℕ) (rest : List ℕ) → is_spacing x ≡ false
    → walk gap (before ++ x ∷ rest) ≡ walk gap (before ++ x ∷ []) ++ walk (blanks []) rest
walk_parts gap [] x rest solid =
    walk_solid gap x rest solid
    ∙ (sym (append_snoc (gap_text gap) x (walk (blanks []) rest)) ∙ ap (λ (t : List ℕ). t ++ walk (blanks []) rest) (sym (walk_solid gap x [] solid)))
walk_parts gap (c ∷ before) x rest solid = elim (cases_Bool (is_spacing c)) [
  | inl is ↦ walk_spacing gap c (before ++ x ∷ rest) is
      ∙ (walk_parts (wider gap c) before x rest solid ∙ ap (λ (t : List ℕ). t ++ walk (blanks []) rest) (sym (walk_spacing gap c (before ++ x ∷ []) is)))
  | inr other ↦
      let left = walk (blanks []) (before ++ x ∷ []) in
      walk_solid gap c (before ++ x ∷ rest) other
      ∙ (ap (λ (t : List ℕ). gap_text gap ++ c ∷ t) (walk_parts (blanks []) before x rest solid)
      ∙ (sym (append_assoc (gap_text gap) (c ∷ left) (walk (blanks []) rest))
      ∙ ap (λ (t : List ℕ). t ++ walk (blanks []) rest) (sym (walk_solid gap c (before ++ x ∷ []) other))))
]

-- what comes after a solid byte counts by its walk alone
same_after : (before : List ℕ) (x : ℕ) (one other : List ℕ) → is_spacing x ≡ false → walk (blanks []) one ≡ walk (blanks []) other
    → value ((before ++ x ∷ []) ++ one) ≡ value ((before ++ x ∷ []) ++ other)
same_after before x one other solid same =
    let with : (rest : List ℕ) → value ((before ++ x ∷ []) ++ rest) ≡ walk at_start (before ++ x ∷ []) ++ walk (blanks []) rest =
    λ rest. value_walk ((before ++ x ∷ []) ++ rest) ∙ (ap (walk at_start) (append_snoc before x rest) ∙ walk_parts at_start before x rest solid) in
    with one ∙ (ap (λ (t : List ℕ). walk at_start (before ++ x ∷ []) ++ t) same ∙ sym (with other))

-- ---- a fold

spacing_around : (first : List ℕ) (c : ℕ) (last : List ℕ) → list_all is_spacing first ≡ true → is_end c ≡ true → list_all is_spacing last ≡ true
    → list_all is_spacing (first ++ c ∷ last) ≡ true
spacing_around first c last all_first is all_last =
    list_all-append is_spacing first (c ∷ last)
    ∙ and_from (list_all is_spacing first) (list_all is_spacing (c ∷ last)) all_first
    (and_from (is_spacing c) (list_all is_spacing last) (or_right (is_blank c) (is_end c) is) all_last)

-- after a solid byte
fold_after : (spacing first : List ℕ) (c : ℕ) (last after : List ℕ) → spacing ≡ first ++ c ∷ last → list_all is_spacing spacing ≡ true → is_end c ≡ true
    → starts_in is_spacing after ≡ false → walk (blanks []) (spacing ++ after) ≡ walk (blanks []) (byte " " ∷ after)
fold_after spacing first c last [] same all is solid = nothing_left (blanks []) (spacing ++ []) (ap (list_all is_spacing) (append-nil spacing) ∙ all)
fold_after spacing first c last (x ∷ after) same all is solid =
    walk_gap (blanks []) spacing (x ∷ after) all
    ∙ (ap (λ (g : Gap). walk g (x ∷ after)) (ap (widest (blanks [])) same ∙ is_folded [] first c last is)
    ∙ (walk_solid folded x after solid ∙ sym (walk_solid (blanks (codes " ")) x after solid)))

takes_fold : (before spacing first : List ℕ) (c : ℕ) (last after : List ℕ) → spacing ≡ first ++ c ∷ last → list_all is_spacing spacing ≡ true → is_end c ≡ true
    → ends_in is_spacing before ≡ false → starts_in is_spacing after ≡ false
    → value (before ++ (spacing ++ after)) ≡ value (before ++ byte " " ∷ after)
takes_fold before spacing first c last after same all is ends begins = elim (last_byte is_spacing before) [
  | inl empty ↦ ap (λ (b : List ℕ). value (b ++ (spacing ++ after))) empty
      ∙ (value_walk (spacing ++ after) ∙ (from_start spacing after all ∙ (sym (from_start (codes " ") after refl)
      ∙ (sym (value_walk (byte " " ∷ after)) ∙ ap (λ (b : List ℕ). value (b ++ byte " " ∷ after)) (sym empty)))))
  | inr some ↦ ap (λ (b : List ℕ). value (b ++ (spacing ++ after))) some.2
      ∙ (same_after some.0 some.1 (spacing ++ after) (byte " " ∷ after) (sym some.3 ∙ ends) (fold_after spacing first c last after same all is begins)
      ∙ ap (λ (b : List ℕ). value (b ++ byte " " ∷ after)) (sym some.2))
]

pub takes_fold_for_space : TakesFoldForSpace
takes_fold_for_space before first c last after all_first is all_last ends begins =
    ap (λ (t : List ℕ). value (before ++ t)) (sym (append_assoc first (c ∷ last) after))
    ∙ takes_fold before (first ++ c ∷ last) first c last after refl (spacing_around first c last all_first is all_last) is ends begins

-- ---- parts

-- after a comma and a space
part_after : (after : List ℕ) → starts_in is_solid after ≡ true → walk (blanks []) (codes ", " ++ after) ≡ codes ", " ++ value after
part_after [] begins = absurd (false≢true begins)
part_after (x ∷ after) begins =
    let solid = not-true (is_spacing x) begins in
    ap (λ (t : List ℕ). byte "," ∷ t) (walk_solid (blanks (codes " ")) x after solid)
    ∙ ap (λ (t : List ℕ). codes ", " ++ t) (sym (walk_solid at_start x after solid) ∙ sym (value_walk (x ∷ after)))

pub is_value_of_parts : IsValueOfParts
is_value_of_parts before after ends begins = elim (last_byte is_solid before) [
  | inl empty ↦ absurd (false≢true (ap (ends_in is_solid) (sym empty) ∙ ends))
  | inr some ↦
      let solid = not-true (is_spacing some.1) (sym some.3 ∙ ends) in
      value_walk (before ++ (codes ", " ++ after))
      ∙ (ap (λ (b : List ℕ). walk at_start (b ++ (codes ", " ++ after))) some.2
      ∙ (ap (walk at_start) (append_snoc some.0 some.1 (codes ", " ++ after))
      ∙ (walk_parts at_start some.0 some.1 (codes ", " ++ after) solid
      ∙ (ap (λ (t : List ℕ). walk at_start (some.0 ++ some.1 ∷ []) ++ t) (part_after after begins)
      ∙ ap (λ (t : List ℕ). t ++ (codes ", " ++ value after)) (ap (walk at_start) (sym some.2) ∙ sym (value_walk before))))))
]

-- ---- the ends of a value

begins_solid : (raw : List ℕ) → (walk at_start raw ≡ []) ⊎ ((c : ℕ) × (rest : List ℕ) × (walk at_start raw ≡ c ∷ rest) × (is_spacing c ≡ false))
begins_solid [] = inl refl
begins_solid (c ∷ raw) = elim (cases_Bool (is_spacing c)) [
  | inl is ↦ rw (walk_spacing at_start c raw is) (begins_solid raw)
  | inr solid ↦ inr (c, walk (blanks []) raw, walk_solid at_start c raw solid, solid)
]

ends_solid : (gap : Gap) (raw : List ℕ) → (walk gap raw ≡ []) ⊎ ((before : List ℕ) × (x : ℕ) × (walk gap raw ≡ before ++ x ∷ []) × (is_spacing x ≡ false))
ends_solid gap [] = inl refl
ends_solid gap (c ∷ raw) = elim (cases_Bool (is_spacing c)) [
  | inl is ↦ rw (walk_spacing gap c raw is) (ends_solid (wider gap c) raw)
  | inr solid ↦ elim (ends_solid (blanks []) raw) [
    | inl empty ↦ inr (gap_text gap, c, walk_solid gap c raw solid ∙ ap (λ (t : List ℕ). gap_text gap ++ c ∷ t) empty, solid)
    | inr some ↦ inr (
      gap_text gap ++ c ∷ some.0,
      some.1,
      walk_solid gap c raw solid ∙ (ap (λ (t : List ℕ). gap_text gap ++ c ∷ t) some.2 ∙ sym (append_assoc (gap_text gap) (c ∷ some.0) (some.1 ∷ []))),
      some.3,
    )
  ]
]

solid_first : (raw : List ℕ) → starts_in is_spacing (value raw) ≡ false
solid_first raw = ap (starts_in is_spacing) (value_walk raw) ∙ elim (begins_solid raw) [
  | inl empty ↦ ap (starts_in is_spacing) empty
  | inr some ↦ ap (starts_in is_spacing) some.2 ∙ some.3
]

ends_at : (class : ℕ → Bool) (before : List ℕ) (x : ℕ) → ends_in class (before ++ x ∷ []) ≡ class x
ends_at class before x = ap (starts_in class) (reverse-append before (x ∷ []))

solid_last : (raw : List ℕ) → ends_in is_spacing (value raw) ≡ false
solid_last raw = ap (ends_in is_spacing) (value_walk raw) ∙ elim (ends_solid at_start raw) [
  | inl empty ↦ ap (ends_in is_spacing) empty
  | inr some ↦ ap (ends_in is_spacing) some.2 ∙ (ends_at is_spacing some.0 some.1 ∙ some.3)
]

no_blank : (text : List ℕ) → starts_in is_spacing text ≡ false → starts_in is_blank text ≡ false
no_blank [] not = refl
no_blank (c ∷ text) not = (or_parts (is_blank c) (is_end c) not).0

pub has_no_blank_at_ends : HasNoBlankAtEnds
has_no_blank_at_ends raw = (no_blank (value raw) (solid_first raw), no_blank (reverse (value raw)) (solid_last raw))

-- ---- the value of a value

abbrev has_no_end : List ℕ → Bool
has_no_end text = list_all (λ c. not (is_end c)) text

no_end_joined : (one other : List ℕ) → has_no_end one ≡ true → has_no_end other ≡ true → has_no_end (one ++ other) ≡ true
no_end_joined one other first second = list_all-append (λ c. not (is_end c)) one other ∙ and_from (has_no_end one) (has_no_end other) first second

no_end_of : (c : ℕ) (rest : List ℕ) → is_end c ≡ false → has_no_end rest ≡ true → has_no_end (c ∷ rest) ≡ true
no_end_of c rest not all = rw not all

no_end_in_gap : (gap : Gap) (c : ℕ) → has_no_end (gap_text gap) ≡ true → has_no_end (gap_text (wider gap c)) ≡ true
no_end_in_gap at_start c all = refl
no_end_in_gap (blanks gap) c all = elim (cases_Bool (is_end c)) [
  | inl is ↦ rw is refl
  | inr not ↦ ap (λ (g : Gap). has_no_end (gap_text g)) (blank_widens gap c not) ∙ no_end_joined gap (c ∷ []) all (no_end_of c [] not refl)
]
no_end_in_gap folded c all = refl

no_end_in_walk : (gap : Gap) (raw : List ℕ) → has_no_end (gap_text gap) ≡ true → has_no_end (walk gap raw) ≡ true
no_end_in_walk gap [] all = refl
no_end_in_walk gap (c ∷ raw) all = elim (cases_Bool (is_spacing c)) [
  | inl is ↦ ap has_no_end (walk_spacing gap c raw is) ∙ no_end_in_walk (wider gap c) raw (no_end_in_gap gap c all)
  | inr solid ↦ ap has_no_end (walk_solid gap c raw solid)
      ∙ no_end_joined (gap_text gap) (c ∷ walk (blanks []) raw) all
      (no_end_of c (walk (blanks []) raw) (or_parts (is_blank c) (is_end c) solid).1 (no_end_in_walk (blanks []) raw refl))
]

-- a text without an end that ends solid stays, after a solid byte
stays_whole : (gap text : List ℕ) (x : ℕ) → has_no_end text ≡ true → is_spacing x ≡ false → walk (blanks gap) (text ++ x ∷ []) ≡ gap ++ (text ++ x ∷ [])
stays_whole gap [] x all solid = walk_solid (blanks gap) x [] solid
stays_whole gap (c ∷ text) x all solid =
    let both = and_parts (not (is_end c)) (has_no_end text) all in
    elim (cases_Bool (is_spacing c)) [
      | inl is ↦ walk_spacing (blanks gap) c (text ++ x ∷ []) is
          ∙ (ap (λ (g : Gap). walk g (text ++ x ∷ [])) (blank_widens gap c (not-true (is_end c) both.0))
          ∙ (stays_whole (gap ++ c ∷ []) text x both.1 solid ∙ append_snoc gap c (text ++ x ∷ [])))
      | inr other ↦ walk_solid (blanks gap) c (text ++ x ∷ []) other ∙ ap (λ (t : List ℕ). gap ++ c ∷ t) (stays_whole [] text x both.1 solid)
    ]

whole_rest : (c : ℕ) (rest : List ℕ) → has_no_end rest ≡ true → ends_in is_spacing (c ∷ rest) ≡ false → walk (blanks []) rest ≡ rest
whole_rest c rest all ends = elim (last_byte is_spacing rest) [
  | inl empty ↦ ap (walk (blanks [])) empty ∙ sym empty
  | inr some ↦
      let clean = and_parts (has_no_end some.0) (has_no_end (some.1 ∷ [])) (sym (list_all-append (λ d. not (is_end d)) some.0 (some.1 ∷ [])) ∙ (ap has_no_end (sym some.2) ∙ all)) in
      let solid = sym (ends_at is_spacing (c ∷ some.0) some.1) ∙ (ap (λ (t : List ℕ). ends_in is_spacing (c ∷ t)) (sym some.2) ∙ ends) in
      ap (walk (blanks [])) some.2 ∙ (stays_whole [] some.0 some.1 clean.0 solid ∙ sym some.2)
]

-- after SP, a text without an end whose ends are solid is its own value
own_value : (text : List ℕ) → has_no_end text ≡ true → starts_in is_spacing text ≡ false → ends_in is_spacing text ≡ false → value (byte " " ∷ text) ≡ text
own_value [] all begins ends = value_walk (codes " ")
own_value (c ∷ text) all begins ends =
    value_walk (byte " " ∷ c ∷ text)
    ∙ (from_start (codes " ") (c ∷ text) refl
    ∙ (walk_solid at_start c text begins
    ∙ ap (λ (t : List ℕ). c ∷ t) (whole_rest c text (and_parts (not (is_end c)) (has_no_end text) all).1 ends)))

no_end_in_value : (raw : List ℕ) → has_no_end (value raw) ≡ true
no_end_in_value raw = ap has_no_end (value_walk raw) ∙ no_end_in_walk at_start raw refl

pub is_value_of_itself : IsValueOfItself
is_value_of_itself raw = own_value (value raw) (no_end_in_value raw) (solid_first raw) (solid_last raw)

-- ---- joined values

joined_first : (text more : List ℕ) → starts_in is_spacing text ≡ false → starts_in is_spacing more ≡ false → starts_in is_spacing (text ++ more) ≡ false
joined_first [] more first other = other
joined_first (c ∷ text) more first other = first

-- a text that isn't empty ends as it does after others
joined_last : (before text : List ℕ) → has_bytes text ≡ true → ends_in is_spacing text ≡ false → ends_in is_spacing (before ++ text) ≡ false
joined_last before text full last = elim (last_byte is_spacing text) [
  | inl empty ↦ absurd (false≢true (ap has_bytes (sym empty) ∙ full))
  | inr some ↦
      ap (λ (t : List ℕ). ends_in is_spacing (before ++ t)) some.2
      ∙ (ap (ends_in is_spacing) (sym (append_assoc before some.0 (some.1 ∷ []))) ∙ (ends_at is_spacing (before ++ some.0) some.1 ∙ (sym some.3 ∙ last)))
]

pub is_value_of_joined : IsValueOfJoined
is_value_of_joined raw other full =
    own_value (value raw ++ (codes ", " ++ value other))
    (no_end_joined (value raw) (codes ", " ++ value other) (no_end_in_value raw) (no_end_joined (codes ", ") (value other) refl (no_end_in_value other)))
    (joined_first (value raw) (codes ", " ++ value other) (solid_first raw) refl)
    (ap (ends_in is_spacing) (sym (append_assoc (value raw) (codes ", ") (value other))) ∙ joined_last (value raw ++ codes ", ") (value other) full (solid_last other))

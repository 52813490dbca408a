-- The first field that isn't turned: it has one index, and there is one or each field is turned.
use Rattle.std.proofs.Common.{◌≡◌, ◌⊎◌, ℕ, zero, suc, ◌+◌, ◌<◌, ◌≤◌, Bool, true, false, Some, None, List, [], ◌∷◌, ◌++◌, length, get_or, take, drop, refl, sym, ap, ◌∙◌, inl, inr, arith}
use Rattle.std.specs.Prelude.{nat_lt, not, position, slice_get}
use Rattle.std.specs.List.{list_all, position_or_len, prefix_len}
use Rattle.std.proofs.lemmas.Bool.{cases_Bool, and_parts, and_from, false≢true, ltb-false, not-false, not-true}
use Rattle.std.proofs.lemmas.List.{length-append, append_assoc}
use Rattle.std.proofs.lemmas.List.Quantifiers.{position-Some}
use Rattle.list_texts.specs.declared.list.Field.{Field}
use Rattle.list_texts.specs.declared.list.FieldList.{FieldList}
use Rattle.byte_grammar.proofs.Indices.{some_and, some_and_parts}
use Rattle.byte_grammar.proofs.ListLaws.{all_parts, all_joined}
use Rattle.field_lists.specs.Controls.{field_of}
use Rattle.field_lists.specs.ToCauses.{IsFirstBad, is_good}
use Rattle.field_lists.specs.tools.PartViews.{FindsBad, is_bad}

-- ---- the first element that fails a test

-- the elements before it pass, and it fails
pub record Fails {X : Type 0} (p : X → Bool) (xs : List X) : Type 0 where
  pub before : List X
  pub bad : X
  pub after : List X
  pub joined : xs ≡ before ++ bad ∷ after
  pub good : list_all p before ≡ true
  pub is_bad : p bad ≡ false

one_more : {X : Type 0} (p : X → Bool) (x : X) (xs : List X) → p x ≡ true → Fails p xs → Fails p (x ∷ xs)
one_more p x xs passes f = record {
  before = x ∷ f.before;
  bad = f.bad;
  after = f.after;
  joined = ap (λ ys. x ∷ ys) f.joined;
  good = and_from (p x) (list_all p f.before) passes f.good;
  is_bad = f.is_bad;
}

pub all_or_fails : {X : Type 0} (p : X → Bool) (xs : List X) → (list_all p xs ≡ true) ⊎ Fails p xs
all_or_fails p [] = inl refl
all_or_fails p (x ∷ xs) = elim (cases_Bool (p x)) [
  | inr fails ↦ inr (record { before = []; bad = x; after = xs; joined = refl; good = refl; is_bad = fails })
  | inl passes ↦ elim (all_or_fails p xs) [
    | inl all ↦ inl (and_from (p x) (list_all p xs) passes all)
    | inr f ↦ inr (one_more p x xs passes f)
  ]
]

-- two such cuts are at one place
one_place : {X : Type 0} (p : X → Bool) (a b : List X) (x y : X) (xs ys : List X) → list_all p a ≡ true → list_all p b ≡ true → p x ≡ false → p y ≡ false → a ++ x ∷ xs ≡ b ++ y ∷ ys → length a ≡ length b
one_place p [] [] x y xs ys all others bad worse e = refl
one_place p [] (z ∷ b) x y xs ys all others bad worse e =
    let same : x ≡ z = cc in
    absurd (false≢true (sym bad ∙ (ap p same ∙ (and_parts (p z) (list_all p b) others).0)))
one_place p (z ∷ a) [] x y xs ys all others bad worse e =
    let same : z ≡ y = cc in
    absurd (false≢true (sym worse ∙ (ap p (sym same) ∙ (and_parts (p z) (list_all p a) all).0)))
one_place p (z ∷ a) (w ∷ b) x y xs ys all others bad worse e =
    let rest : a ++ x ∷ xs ≡ b ++ y ∷ ys = cc in
    let n = one_place p a b x y xs ys (and_parts (p z) (list_all p a) all).1 (and_parts (p w) (list_all p b) others).1 bad worse rest in
    ap suc n

-- where all pass, none fails
no_failure : {X : Type 0} (p : X → Bool) (xs before : List X) (bad : X) (after : List X) → list_all p xs ≡ true → xs ≡ before ++ bad ∷ after → ¬ (p bad ≡ false)
no_failure p xs before bad after all joined fails =
    let parts = all_parts p before (bad ∷ after) (ap (list_all p) (sym joined) ∙ all) in
    false≢true (sym fails ∙ (and_parts (p bad) (list_all p after) parts.1).0)

-- ---- of a list

pub one_bad : (list : FieldList) (others : List Field) (i j : ℕ) → IsFirstBad list others i → IsFirstBad list others j → i ≡ j
one_bad list others i j a b =
    let same = one_place is_good a.before b.before a.bad b.bad a.after b.after a.good b.good a.is_bad b.is_bad (sym a.joined ∙ b.joined) in
    omega (arith, a.place, b.place, same)

pub all_good : (list : FieldList) (others : List Field) → list_all is_good others ≡ true → list_all is_good list.trailers ≡ true → (index : ℕ) → ¬ IsFirstBad list others index
all_good list others all more index bad =
    no_failure is_good (others ++ list.trailers) bad.before bad.bad bad.after (all_joined is_good others list.trailers all more) bad.joined bad.is_bad

-- each of the fields and trailer fields is turned, or one is the first that isn't
pub bad_or_all : (list : FieldList) (pseudo others : List Field) → list.fields ≡ pseudo ++ others
    → (list_all is_good (others ++ list.trailers) ≡ true) ⊎ ((index : ℕ) × IsFirstBad list others index)
bad_or_all list pseudo others joined = elim (all_or_fails is_good (others ++ list.trailers)) [
  | inl all ↦ inl all
  | inr f ↦ inr (
    length pseudo + length f.before,
    record {
      before = f.before;
      bad = f.bad;
      after = f.after;
      joined = f.joined;
      good = f.good;
      is_bad = f.is_bad;
      place = omega (arith, ap length joined, length-append pseudo others);
    },
  )
]

pub none_bad : (list : FieldList) (others : List Field) → list_all is_good (others ++ list.trailers) ≡ true → (index : ℕ) → ¬ IsFirstBad list others index
none_bad list others all index bad = no_failure is_good (others ++ list.trailers) bad.before bad.bad bad.after all bad.joined bad.is_bad

pub all_turned : (list : FieldList) (pseudo others : List Field) → list.fields ≡ pseudo ++ others → ((index : ℕ) → ¬ IsFirstBad list others index) → list_all is_good (others ++ list.trailers) ≡ true
all_turned list pseudo others joined none = elim (bad_or_all list pseudo others joined) [
  | inl all ↦ all
  | inr bad ↦ absurd (none bad.0 bad.1)
]

-- ---- what is found

cut_at : {X : Type 0} (xs : List X) (i : ℕ) (x : X) → slice_get xs i ≡ Some x → xs ≡ take i xs ++ x ∷ drop (suc i) xs
cut_at [] i x there = absurd cc
cut_at (y ∷ ys) zero x there = let same : y ≡ x = cc in ap (λ z. z ∷ ys) same
cut_at (y ∷ ys) (suc i) x there = ap (λ zs. y ∷ zs) (cut_at ys i x there)

length_taken : {X : Type 0} (xs : List X) (i : ℕ) (x : X) → slice_get xs i ≡ Some x → length (take i xs) ≡ i
length_taken [] i x there = absurd cc
length_taken (y ∷ ys) zero x there = refl
length_taken (y ∷ ys) (suc i) x there = ap suc (length_taken ys i x there)

-- the test passes at each index below
all_below : {X : Type 0} (p : X → Bool) (xs : List X) (i : ℕ) (d : X) → i ≤ length xs → ((k : ℕ) → k < i → p (get_or xs k d) ≡ true) → list_all p (take i xs) ≡ true
all_below p xs zero d within each = refl
all_below p [] (suc i) d within each = refl
all_below p (x ∷ xs) (suc i) d within each =
    and_from (p x) (list_all p (take i xs)) (each zero (omega arith)) (all_below p xs i d (omega arith) (λ k less. each (suc k) (omega (arith, less))))

get_there : {X : Type 0} (xs : List X) (i : ℕ) (d : X) → i < length xs → slice_get xs i ≡ Some (get_or xs i d)
get_there [] i d within = absurd (omega arith)
get_there (x ∷ xs) zero d within = refl
get_there (x ∷ xs) (suc i) d within = get_there xs i d (omega arith)

twice_not : (b : Bool) → not (not b) ≡ true → b ≡ true
twice_not true is = refl
twice_not false is = absurd (false≢true is)

pub found_bad : (fields : List Field) (index : ℕ) → position is_bad fields ≡ Some index → FindsBad (Some index) fields
found_bad fields index is =
    let d : Field = field_of [] [] in
    let at = position-Some is_bad fields index d is in (
      all_below is_good fields index d (omega (arith, at.0)) (λ k less. not-false (is_good (get_or fields k d)) (at.2 k less)),
      some_and (λ field. is_good field ≡ false) (slice_get fields index) (get_or fields index d) (get_there fields index d at.0) (not-true (is_good (get_or fields index d)) at.1),
    )

none_fail : (fields : List Field) → length fields ≤ prefix_len (λ field. not (is_bad field)) fields → list_all is_good fields ≡ true
none_fail [] most = refl
none_fail (f ∷ fs) most = elim (cases_Bool (not (is_bad f))) [
  | inl passes ↦ and_from (is_good f) (list_all is_good fs) (twice_not (is_good f) passes) (none_fail fs (let less = rw passes at most in omega (arith, less)))
  | inr fails ↦ let none = rw fails at most in absurd (omega (arith, none))
]

pub none_found : (fields : List Field) → position is_bad fields ≡ None → FindsBad None fields
none_found fields is = elim (cases_Bool (nat_lt (position_or_len is_bad fields) (length fields))) [
  | inl within ↦ absurd (let e : Some (position_or_len is_bad fields) ≡ None = rw within at is in cc)
  | inr fails ↦ none_fail fields (ltb-false (position_or_len is_bad fields) (length fields) fails)
]

-- the first one is among the fields
pub bad_field : (list : FieldList) (others : List Field) (index pseudo : ℕ) → FindsBad (Some index) others → pseudo + length others ≡ length list.fields → IsFirstBad list others (pseudo + index)
bad_field list others index pseudo (good, there) count =
    let at = some_and_parts (λ field. is_good field ≡ false) (slice_get others index) there in
    record {
      before = take index others;
      bad = at.0;
      after = drop (suc index) others ++ list.trailers;
      joined = ap (λ xs. xs ++ list.trailers) (cut_at others index at.0 at.1) ∙ append_assoc (take index others) (at.0 ∷ drop (suc index) others) list.trailers;
      good = good;
      is_bad = at.2;
      place = omega (arith, count, length_taken others index at.0 at.1);
    }

-- the first one is among the trailer fields
pub bad_trailer : (list : FieldList) (others : List Field) (index : ℕ) → FindsBad None others → FindsBad (Some index) list.trailers → IsFirstBad list others (length list.fields + index)
bad_trailer list others index all (good, there) =
    let at = some_and_parts (λ field. is_good field ≡ false) (slice_get list.trailers index) there in
    record {
      before = others ++ take index list.trailers;
      bad = at.0;
      after = drop (suc index) list.trailers;
      joined = ap (λ xs. others ++ xs) (cut_at list.trailers index at.0 at.1) ∙ sym (append_assoc others (take index list.trailers) (at.0 ∷ drop (suc index) list.trailers));
      good = all_joined is_good others (take index list.trailers) all good;
      is_bad = at.2;
      place = omega (arith, length-append others (take index list.trailers), length_taken list.trailers index at.0 at.1);
    }

-- The least path, where the paths of a list ascend.
use Rattle.std.proofs.Common.{◌≡◌, ◌&&◌, ℕ, Bool, true, List, [], ◌∷◌, ◌++◌, Some, None, option_map, IsTrue, Ordering, Less, Equal, Greater, nat_cmp, refl, sym, ap, ◌∙◌, inl, inr}
use Rattle.std.specs.List.{find, list_all}
use Rattle.std.specs.Cmp.{tied_itself}
use Rattle.std.specs.Cmp.Lexicographic.{slice_cmp}
use Rattle.std.specs.FinMap as map
use Rattle.std.specs.Ordering.{is_lt, ordering_reverse}
use Rattle.std.proofs.lemmas.Bool.{and_parts, cases_Bool, false≢true}
use Rattle.std.proofs.lemmas.Cmp.{nat_list_cmp_total}
use Rattle.conf.specs.Paths.{HoldsAtPath, HoldsOfNone, IsLeast}

abbrev path_cmp : List ℕ → List ℕ → Ordering
path_cmp = slice_cmp nat_cmp

-- each path comes before those after it
abbrev pub ascends : {X : Type 0} → (X → List ℕ) → List X → Bool
ascends path_of [] = true
ascends path_of (x ∷ xs) = list_all (λ y. is_lt (path_cmp (path_of x) (path_of y))) xs && ascends path_of xs

less_of : (o : Ordering) → is_lt o ≡ true → o ≡ Less
less_of Less h = refl
less_of Equal h = absurd (false≢true h)
less_of Greater h = absurd (false≢true h)

not_itself : (a : List ℕ) → ¬ (path_cmp a a ≡ Less)
not_itself a less = let tied = tied_itself nat_list_cmp_total a in absurd (cc (less, tied))

not_back : (a b : List ℕ) → path_cmp a b ≡ Less → ¬ (path_cmp b a ≡ Less)
not_back a b less back = not_itself a (nat_list_cmp_total.trans a b a less back)

later : {X : Type 0} (path_of : X → List ℕ) (P : X → Type 0) (first path : List ℕ) (xs : List X) → list_all (λ y. is_lt (path_cmp first (path_of y))) xs ≡ true
    → HoldsAtPath path_of P xs path → path_cmp first path ≡ Less
later path_of P first path [] all h = absurd h
later path_of P first path (x ∷ xs) all h =
    let both = and_parts (is_lt (path_cmp first (path_of x))) (list_all (λ y. is_lt (path_cmp first (path_of y))) xs) all in
    elim h [
      | inl here ↦ rw (← here.1) (less_of (path_cmp first (path_of x)) both.0)
      | inr there ↦ later path_of P first path xs both.1 there
    ]

-- the first of them has the least path
pub first_here : {X : Type 0} (path_of : X → List ℕ) (P : X → Type 0) (x : X) (xs : List X) → list_all (λ y. is_lt (path_cmp (path_of x) (path_of y))) xs ≡ true
    → P x → IsLeast (HoldsAtPath path_of P (x ∷ xs)) (path_of x)
first_here path_of P x xs all here = record { holds = inl (here, refl); least = least path_of P x xs all } where
  least : {X : Type 0} (path_of : X → List ℕ) (P : X → Type 0) (x : X) (xs : List X) → list_all (λ y. is_lt (path_cmp (path_of x) (path_of y))) xs ≡ true
      → (other : List ℕ) → HoldsAtPath path_of P (x ∷ xs) other → ¬ (path_cmp other (path_of x) ≡ Less)
  least path_of P x xs all other (inl same) less = not_itself other (rw same.1 at less)
  least path_of P x xs all other (inr there) less = not_back (path_of x) other (later path_of P (path_of x) other xs all there) less

-- one that isn't among them changes nothing
pub further : {X : Type 0} (path_of : X → List ℕ) (P : X → Type 0) (x : X) (xs : List X) (path : List ℕ) → (P x → ⊥)
    → IsLeast (HoldsAtPath path_of P xs) path → IsLeast (HoldsAtPath path_of P (x ∷ xs)) path
further path_of P x xs path isnt least = record { holds = inr least.holds; least = others path_of P x xs path isnt least } where
  others : {X : Type 0} (path_of : X → List ℕ) (P : X → Type 0) (x : X) (xs : List X) (path : List ℕ) → (P x → ⊥) → IsLeast (HoldsAtPath path_of P xs) path
      → (other : List ℕ) → HoldsAtPath path_of P (x ∷ xs) other → ¬ (path_cmp other path ≡ Less)
  others path_of P x xs path isnt least other (inl here) less = isnt here.0
  others path_of P x xs path isnt least other (inr there) less = least.least other there less

-- where it holds of none before, it has the least path
pub least_at : {X : Type 0} (path_of : X → List ℕ) (P : X → Type 0) (before : List X) (x : X) (after : List X) → ascends path_of (before ++ x ∷ after) ≡ true
    → HoldsOfNone P before → P x → IsLeast (HoldsAtPath path_of P (before ++ x ∷ after)) (path_of x)
least_at path_of P [] x after up none here = first_here path_of P x after (and_parts (list_all (λ y. is_lt (path_cmp (path_of x) (path_of y))) after) (ascends path_of after) up).0 here
least_at path_of P (b ∷ before) x after up none here =
    let rest = (and_parts (list_all (λ y. is_lt (path_cmp (path_of b) (path_of y))) (before ++ x ∷ after)) (ascends path_of (before ++ x ∷ after)) up).1 in
    further path_of P b (before ++ x ∷ after) (path_of x) none.0 (least_at path_of P before x after rest none.1 here)

-- the path of the first that passes is the least
pub found_least : {X : Type 0} (path_of : X → List ℕ) (test : X → Bool) (xs : List X) (path : List ℕ) → ascends path_of xs ≡ true
    → Some path ≡ option_map path_of (find test xs) → IsLeast (HoldsAtPath path_of (λ x. IsTrue (test x)) xs) path
found_least path_of test [] path up found = absurd cc
found_least path_of test (x ∷ xs) path up found =
    let both = and_parts (list_all (λ y. is_lt (path_cmp (path_of x) (path_of y))) xs) (ascends path_of xs) up in
    elim (cases_Bool (test x)) [
      | inl passes ↦
          let same : path ≡ path_of x = cc (rw passes at found) in
          rw same (first_here path_of (λ y. IsTrue (test y)) x xs both.0 passes)
      | inr fails ↦
          further path_of (λ y. IsTrue (test y)) x xs path (λ passes. false≢true (sym fails ∙ passes)) (found_least path_of test xs path both.1 (rw fails at found))
    ]

-- where none is found, none passes
pub found_none : {X : Type 0} (path_of : X → List ℕ) (test : X → Bool) (xs : List X) → None ≡ option_map path_of (find test xs) → HoldsOfNone (λ x. IsTrue (test x)) xs
found_none path_of test [] none = tt
found_none path_of test (x ∷ xs) none = elim (cases_Bool (test x)) [
  | inl passes ↦ let found = rw passes at none in absurd cc
  | inr fails ↦ (λ passes. false≢true (sym fails ∙ passes), found_none path_of test xs (rw fails at none))
]

-- of none of them is none the least
pub none_at : {X : Type 0} (path_of : X → List ℕ) (P : X → Type 0) (xs : List X) (path : List ℕ) → HoldsOfNone P xs → ¬ HoldsAtPath path_of P xs path
none_at path_of P [] path none h = h
none_at path_of P (x ∷ xs) path none (inl here) = none.0 here.0
none_at path_of P (x ∷ xs) path none (inr there) = none_at path_of P xs path none.1 there

-- there is one least path
pub least_once : (Holds : List ℕ → Type 0) (a b : List ℕ) → IsLeast Holds a → IsLeast Holds b → a ≡ b
least_once Holds a b first second = elim (path_cmp a b) as (λ r. path_cmp a b ≡ r → a ≡ b) [
  | Less ↦ λ e. absurd (second.least a first.holds e)
  | Equal ↦ λ e. map.slice_cmp-IsAntisymmetric map.nat_cmp-IsAntisymmetric a b e
  | Greater ↦ λ e. absurd (first.least b second.holds (nat_list_cmp_total.antisymm b a ∙ ap ordering_reverse e))
] refl

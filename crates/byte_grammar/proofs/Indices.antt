-- What holds at an index of a list.
use Rattle.std.proofs.Common.{◌≡◌, ◌<◌, ℕ, zero, suc, Bool, true, false, not, Option, Some, None, List, [], ◌∷◌, take, refl, inl, inr, arith}
use Rattle.std.specs.List.{find, list_all, slice_get}
use Rattle.std.specs.Option.{IsSomeAnd}
use Rattle.std.proofs.lemmas.Bool.{cases_Bool, and_parts}

-- the value that is there has the fact
pub some_and : {X : Type 0} (P : X → Type 0) (o : Option X) (x : X) → o ≡ Some x → P x → IsSomeAnd o P
some_and P o x is here = rw is here

-- what an equation of an Option says of its fact
pub some_and_at : {X : Type 0} (P : X → Type 0) (o : Option X) (x : X) → o ≡ Some x → IsSomeAnd o P → P x
some_and_at P o x is here = rw is at here

-- the value that is there, with its fact
pub some_and_parts : {X : Type 0} (P : X → Type 0) (o : Option X) → IsSomeAnd o P → (x : X) × (o ≡ Some x) × P x
some_and_parts P (Some x) here = (x, refl, here)
some_and_parts P None here = absurd here

-- the first element that fails is found
pub find_failed : {X : Type 0} (p : X → Bool) (xs : List X) (i : ℕ) (x : X) → list_all p (take i xs) ≡ true → slice_get xs i ≡ Some x → p x ≡ false
    → find (λ y. not (p y)) xs ≡ Some x
find_failed p [] i x before there fails = absurd cc
find_failed p (y ∷ ys) zero x before there fails = let same : y ≡ x = cc in rw (same, fails) refl
find_failed p (y ∷ ys) (suc i) x before there fails =
    let h = and_parts (p y) (list_all p (take i ys)) before in
    rw h.0 (find_failed p ys i x h.1 there fails)

-- none fails where none is found
pub find_none : {X : Type 0} (p : X → Bool) (xs : List X) → list_all p xs ≡ true → find (λ y. not (p y)) xs ≡ None
find_none p [] all = refl
find_none p (y ∷ ys) all = let h = and_parts (p y) (list_all p ys) all in rw h.0 (find_none p ys h.1)

-- none is found where none fails
pub none_fails : {X : Type 0} (p : X → Bool) (xs : List X) → find (λ y. not (p y)) xs ≡ None → list_all p xs ≡ true
none_fails p [] none = refl
none_fails p (y ∷ ys) none = elim (cases_Bool (p y)) [
  | inl passes ↦ rw passes (none_fails p ys (rw passes at none))
  | inr fails ↦ let found = rw fails at none in absurd cc
]

-- a test passes at each index
pub all_at : {X : Type 0} (p : X → Bool) (xs : List X) (i : ℕ) (x : X) → list_all p xs ≡ true → slice_get xs i ≡ Some x → p x ≡ true
all_at p [] i x all there = absurd cc
all_at p (y ∷ ys) zero x all there = let same : y ≡ x = cc in rw (← same) (and_parts (p y) (list_all p ys) all).0
all_at p (y ∷ ys) (suc i) x all there = all_at p ys i x (and_parts (p y) (list_all p ys) all).1 there

pub slice_get_take : {X : Type 0} (xs : List X) (n i : ℕ) → i < n → slice_get (take n xs) i ≡ slice_get xs i
slice_get_take [] zero i lt = refl
slice_get_take [] (suc n) i lt = refl
slice_get_take (x ∷ xs) zero i lt = absurd (omega arith)
slice_get_take (x ∷ xs) (suc n) zero lt = refl
slice_get_take (x ∷ xs) (suc n) (suc i) lt = slice_get_take xs n i (omega arith)

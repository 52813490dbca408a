-- The first element that passes a test, found from one to the next.
use Rattle.std.proofs.Common.{◌≡◌, ◌<◌, ◌≤◌, ℕ, zero, suc, Bool, true, Some, None, List, [], ◌∷◌, length, take, refl, inl, inr, arith}
use Rattle.std.proofs.Math.ListN.{get_or}
use Rattle.std.specs.List.{find}
use Rattle.std.proofs.lemmas.Bool.{cases_Bool}

-- none before it passes
pub found_next : {X : Type 0} (test : X → Bool) (xs : List X) (i : ℕ) (d : X) → i < length xs → find test (take i xs) ≡ None → test (get_or xs i d) ≡ true
    → Some (get_or xs i d) ≡ find test xs
found_next test [] i d within none passes = absurd (omega arith)
found_next test (x ∷ xs) zero d within none passes = rw passes refl
found_next test (x ∷ xs) (suc i) d within none passes = elim (cases_Bool (test x)) [
  | inl first ↦ let found = rw first at none in absurd cc
  | inr fails ↦ rw fails (found_next test xs i d (omega arith) (rw fails at none) passes)
]

-- none passes
pub none_found : {X : Type 0} (test : X → Bool) (xs : List X) (i : ℕ) → length xs ≤ i → find test (take i xs) ≡ None → None ≡ find test xs
none_found test [] i all none = refl
none_found test (x ∷ xs) zero all none = absurd (omega arith)
none_found test (x ∷ xs) (suc i) all none = elim (cases_Bool (test x)) [
  | inl first ↦ let found = rw first at none in absurd cc
  | inr fails ↦ rw fails (none_found test xs i (omega arith) (rw fails at none))
]

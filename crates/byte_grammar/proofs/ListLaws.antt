-- A test that each element of a list passes, where the list is made of others.
use Rattle.std.proofs.Common.{◌≡◌, Bool, true, false, ◌&&◌, List, [], ◌∷◌, ◌++◌, refl, ◌∙◌, ap, inl, inr}
use Rattle.std.specs.Prelude.{filter, reverse}
use Rattle.std.specs.List.{list_all, flat_map, join_by, slice_split, onto_first}
use Rattle.std.proofs.lemmas.Bool.{cases_Bool, and_parts, and_from}
use Rattle.std.proofs.lemmas.List.{reverse-append}
use Rattle.std.proofs.lemmas.List.Folds.{list_all-append}
use Rattle.std.proofs.lemmas.List.Splits.{slice_split-cons_yes, slice_split-cons_no}

module _ {X : Type 0} (p : X → Bool) where
  pub all_joined : (xs ys : List X) → list_all p xs ≡ true → list_all p ys ≡ true → list_all p (xs ++ ys) ≡ true
  all_joined xs ys a b = list_all-append p xs ys ∙ and_from (list_all p xs) (list_all p ys) a b

  pub all_parts : (xs ys : List X) → list_all p (xs ++ ys) ≡ true → (list_all p xs ≡ true) × (list_all p ys ≡ true)
  all_parts xs ys all = and_parts (list_all p xs) (list_all p ys) (rw (← list_all-append p xs ys) all)

  pub all_reverse : (xs : List X) → list_all p xs ≡ true → list_all p (reverse xs) ≡ true
  all_reverse [] all = refl
  all_reverse (x ∷ xs) all =
      let both = and_parts (p x) (list_all p xs) all in
      ap (list_all p) (reverse-append (x ∷ []) xs) ∙ all_joined (reverse xs) (x ∷ []) (all_reverse xs both.1) (and_from (p x) true both.0 refl)

  pub all_filter : (keep : X → Bool) (xs : List X) → list_all p xs ≡ true → list_all p (filter keep xs) ≡ true
  all_filter keep [] all = refl
  all_filter keep (x ∷ xs) all =
      let both = and_parts (p x) (list_all p xs) all in elim (cases_Bool (keep x)) [
        | inl kept ↦ rw kept (and_from (p x) (list_all p (filter keep xs)) both.0 (all_filter keep xs both.1))
        | inr gone ↦ rw gone (all_filter keep xs both.1)
      ]

  pub all_implied : (q : X → Bool) → ((x : X) → p x ≡ true → q x ≡ true) → (xs : List X) → list_all p xs ≡ true → list_all q xs ≡ true
  all_implied q more [] all = refl
  all_implied q more (x ∷ xs) all =
      let both = and_parts (p x) (list_all p xs) all in
      and_from (q x) (list_all q xs) (more x both.0) (all_implied q more xs both.1)

  pub all_both : (q : X → Bool) (xs : List X) → list_all p xs ≡ true → list_all q xs ≡ true → list_all (λ x. p x && q x) xs ≡ true
  all_both q [] a b = refl
  all_both q (x ∷ xs) a b =
      let c = and_parts (p x) (list_all p xs) a in
      let d = and_parts (q x) (list_all q xs) b in
      and_from (p x && q x) (list_all (λ y. p y && q y) xs) (and_from (p x) (q x) c.0 d.0) (all_both q xs c.1 d.1)

  -- ---- lists of each element

  pub all_flat : {Y : Type 0} (f : Y → List X) (test : Y → Bool) → ((y : Y) → test y ≡ true → list_all p (f y) ≡ true) → (ys : List Y) → list_all test ys ≡ true → list_all p (flat_map f ys) ≡ true
  all_flat f test each [] all = refl
  all_flat f test each (y ∷ ys) all =
      let both = and_parts (test y) (list_all test ys) all in
      all_joined (f y) (flat_map f ys) (each y both.0) (all_flat f test each ys both.1)

  pub all_separated : {Y : Type 0} (f : Y → List X) (sep : List X) (test : Y → Bool) → list_all p sep ≡ true → ((y : Y) → test y ≡ true → list_all p (f y) ≡ true) → (ys : List Y) → list_all test ys ≡ true
      → list_all p (join_by f sep ys) ≡ true
  all_separated f sep test clean each [] all = refl
  all_separated f sep test clean each (y ∷ ys) all =
      let both = and_parts (test y) (list_all test ys) all in
      all_joined (f y) (flat_map (λ z. sep ++ f z) ys) (each y both.0) (all_flat (λ z. sep ++ f z) test (λ z is. all_joined sep (f z) clean (each z is)) ys both.1)

  -- ---- parts between ends

  onto : (x : X) (parts : List (List X)) → p x ≡ true → list_all (list_all p) parts ≡ true → list_all (list_all p) (onto_first x parts) ≡ true
  onto x [] is all = rw is refl
  onto x (part ∷ parts) is all = rw is all

  pub all_split : (end q : X → Bool) → ((x : X) → q x ≡ true → end x ≡ false → p x ≡ true) → (xs : List X) → list_all q xs ≡ true → list_all (list_all p) (slice_split end xs) ≡ true
  all_split end q each [] all = refl
  all_split end q each (x ∷ xs) all =
      let both = and_parts (q x) (list_all q xs) all in elim (cases_Bool (end x)) [
        | inl ends ↦ rw (slice_split-cons_yes end x xs ends) (all_split end q each xs both.1)
        | inr goes ↦ rw (slice_split-cons_no end x xs goes) (onto x (slice_split end xs) (each x both.0 goes) (all_split end q each xs both.1))
      ]

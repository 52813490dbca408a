-- Names of a query that were told whether another has the same values under them, and one more.
use Rattle.std.proofs.Common.{◌≡◌, ◌↔◌, ℕ, Bool, IsTrue, IfSome, Option, Some, None, List, [], ◌∷◌, refl, sym, ◌∙◌, inl, inr}
use Rattle.std.specs.Prelude.{MatchOption}
use Rattle.std.specs.Str.{bytes_eq}
use Rattle.std.proofs.lemmas.Bool.{cases_Bool}
use Rattle.std.proofs.lemmas.Slice.Eq.{bytes_eq-Decides}
use Rattle.sfv_text.specs.declared.pair.Pair.{Pair}
use Rattle.sfv_text.specs.Keys.{put, value_of}
use Rattle.sfv_text.proofs.PutLaws.{put_value}
use Rattle.derived_values.specs.Query.{matches, pairs}
use Rattle.derived_values.specs.tools.Params.{AreListedIn, AreToldSoFar, SaysWhichAreSame}

module _ (are_same : List (Pair Bool)) (query other : List ℕ) (places : List (Pair ℕ)) where
  -- whether both have the same values under the name
  abbrev IsToldOf : List ℕ → Bool → Type 0
  IsToldOf name same = IsTrue same ↔ (matches query name ≡ matches other name)

  pub told_more : (pair : Pair ℕ) (left : List (Pair ℕ)) (same : Bool) → AreToldSoFar are_same query other places (pair ∷ left) → IsToldOf pair.key same
      → AreToldSoFar (put are_same pair.key same) query other places left
  told_more pair left same so_far is = record { told = told; rest = rest }
    where
      key : List ℕ
      key = pair.key

      told : (name : List ℕ) → IfSome (value_of (put are_same key same) name) (IsToldOf name)
      told name = elim (cases_Bool (bytes_eq key name)) [
        | inl one ↦
            let name_is : name ≡ key = sym ((bytes_eq-Decides key name).0 one) in
            let own : value_of (put are_same key same) key ≡ Some same = put_value key same key are_same ∙ rw ((bytes_eq-Decides key key).1 refl) refl in
            rw (name_is, own) is
        | inr apart ↦
            let own : value_of (put are_same key same) name ≡ value_of are_same name = put_value key same name are_same ∙ rw apart refl in
            rw own (so_far.told name)
      ]

      rest : (name : List ℕ) → value_of (put are_same key same) name ≡ None → value_of left name ≡ value_of places name
      rest name none = elim (cases_Bool (bytes_eq key name)) [
        | inl one ↦
            let own : value_of (put are_same key same) name ≡ Some same = put_value key same name are_same ∙ rw one refl in
            let e : Some same ≡ None = sym own ∙ none in
            absurd cc
        | inr apart ↦
            let own : value_of (put are_same key same) name ≡ value_of are_same name = put_value key same name are_same ∙ rw apart refl in
            let before = so_far.rest name (sym own ∙ none) in
            rw apart at before
      ]

  pub told_all : (lists : List (List (List ℕ))) → AreListedIn places lists (pairs query) → AreToldSoFar are_same query other places []
      → SaysWhichAreSame are_same query other
  told_all lists listed so_far name = by (value_of are_same name) refl
    where
      by : (found : Option Bool) → value_of are_same name ≡ found → MatchOption found (matches query name ≡ []) (IsToldOf name)
      by None none =
          let nowhere : value_of places name ≡ None = sym (so_far.rest name none) in
          rw nowhere at (listed.each name)
      by (Some same) is = rw is at (so_far.told name)

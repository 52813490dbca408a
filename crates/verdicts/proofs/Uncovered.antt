-- The first required component that isn't covered.
use Rattle.std.proofs.Common.{◌≡◌, ◌⊎◌, ℕ, zero, suc, Bool, true, false, not, Option, Some, None, List, [], ◌∷◌, take, get_or, refl, sym, ap, ◌∙◌, inl, inr}
use Rattle.std.specs.List.{All, find, list_all, slice_get}
use Rattle.std.proofs.lemmas.Bool.{cases_Bool, false≢true}
use Rattle.std.proofs.lemmas.List.Folds.{Any-from_list_any, list_any-from_Any}
use Rattle.std.proofs.lemmas.List.Sums.{AllPass-from_list_all, list_all-from_AllPass}
use Rattle.byte_grammar.proofs.Indices.{find_failed, find_none, none_fails}
use Rattle.component_ids.specs.declared.id.ComponentId.{ComponentId}
use Rattle.component_ids.specs.Identifiers.{IsSameId}
use Rattle.component_ids.specs.Sameness.{is_same}
use Rattle.component_ids.proofs.SameLaws.{same_decides}
use Rattle.verdicts.specs.Policies.{IsCovered, IsFirstUncovered}
use Rattle.verdicts.specs.tools.Judged.{is_covered}

-- the test of another crate answers as this one does
pub same_test : (a b : ComponentId) (answer : Bool) → (answer ≡ true → IsSameId a b) × (IsSameId a b → answer ≡ true) → answer ≡ is_same a b
same_test a b answer tells = elim (cases_Bool (is_same a b)) [
  | inl same ↦ tells.1 ((same_decides a b).0 same) ∙ sym same
  | inr other ↦ elim (cases_Bool answer) [
    | inl is ↦ absurd (false≢true (sym other ∙ (same_decides a b).1 (tells.0 is)))
    | inr isnt ↦ isnt ∙ sym other
  ]
]

-- the test decides it
covers : (covered : List ComponentId) (id : ComponentId) → is_covered covered id ≡ true → IsCovered covered id
covers covered id h =
    let at = Any-from_list_any (λ (own : ComponentId). is_same own id) covered h in
    (at.0, at.1, at.2, at.3, (same_decides at.1 id).0 at.4)

is_covered_where : (covered : List ComponentId) (id : ComponentId) → IsCovered covered id → is_covered covered id ≡ true
is_covered_where covered id at =
    list_any-from_Any (λ (own : ComponentId). is_same own id) covered (at.0, at.1, at.2, at.3, (same_decides at.1 id).1 at.4)

module _ (covered : List ComponentId) where
  all_covered : (ids : List ComponentId) → list_all (is_covered covered) ids ≡ true → All (IsCovered covered) ids
  all_covered ids h k d lt = covers covered (get_or ids k d) (AllPass-from_list_all (is_covered covered) ids h k d lt)

  all_pass : (ids : List ComponentId) → All (IsCovered covered) ids → list_all (is_covered covered) ids ≡ true
  all_pass ids all = list_all-from_AllPass (is_covered covered) ids (λ k d lt. is_covered_where covered (get_or ids k d) (all k d lt))

  -- where none is found, each is covered
  pub none_found : (required : List ComponentId) → find (λ id. not (is_covered covered id)) required ≡ None → All (IsCovered covered) required
  none_found required none = all_covered required (none_fails (is_covered covered) required none)

  -- what is found stands at an index
  found_at : (required : List ComponentId) (id : ComponentId) → find (λ id. not (is_covered covered id)) required ≡ Some id
      → (index : ℕ) × (list_all (is_covered covered) (take index required) ≡ true) × (slice_get required index ≡ Some id) × (is_covered covered id ≡ false)
  found_at [] id found = absurd cc
  found_at (own ∷ required) id found = elim (cases_Bool (is_covered covered own)) [
    | inl passes ↦
        let at = found_at required id (rw passes at found) in
        (suc at.0, rw passes at.1, at.2, at.3)
    | inr fails ↦
        let same : own ≡ id = let e = rw fails at found in cc in
        (zero, refl, ap Some same, ap (is_covered covered) (sym same) ∙ fails)
  ]

  pub found_first : (required : List ComponentId) (id : ComponentId) → find (λ id. not (is_covered covered id)) required ≡ Some id → IsFirstUncovered covered required id
  found_first required id found =
      let at = found_at required id found in
      record {
        index = at.0;
        before = all_covered (take at.0 required) at.1;
        there = at.2;
        uncovered = λ h. false≢true (sym at.3 ∙ is_covered_where covered id h);
      }

  -- the first is found
  uncovered_fails : (id : ComponentId) → ¬ IsCovered covered id → is_covered covered id ≡ false
  uncovered_fails id none = elim (cases_Bool (is_covered covered id)) [
    | inl passes ↦ absurd (none (covers covered id passes))
    | inr fails ↦ fails
  ]

  first_found : (required : List ComponentId) (id : ComponentId) → IsFirstUncovered covered required id → find (λ id. not (is_covered covered id)) required ≡ Some id
  first_found required id first =
      find_failed (is_covered covered) required first.index id (all_pass (take first.index required) first.before) first.there (uncovered_fails id first.uncovered)

  pub one_uncovered : (required : List ComponentId) (id other : ComponentId) → IsFirstUncovered covered required id → IsFirstUncovered covered required other → id ≡ other
  one_uncovered required id other a b =
      let e : Some id ≡ Some other = sym (first_found required id a) ∙ first_found required other b in
      cc

  -- none is the first where each is covered
  pub all_or_first : (required : List ComponentId) (id : ComponentId) → All (IsCovered covered) required → ¬ IsFirstUncovered covered required id
  all_or_first required id all first =
      let e : Some id ≡ None = sym (first_found required id first) ∙ find_none (is_covered covered) required (all_pass required all) in
      absurd cc

  pub has_first : (required : List ComponentId) → All (IsCovered covered) required ⊎ ((id : ComponentId) × IsFirstUncovered covered required id)
  has_first required = by_found (find (λ id. not (is_covered covered id)) required) refl
    where
      by_found : (o : Option ComponentId) → find (λ id. not (is_covered covered id)) required ≡ o → All (IsCovered covered) required ⊎ ((id : ComponentId) × IsFirstUncovered covered required id)
      by_found (Some id) found = inr (id, found_first required id found)
      by_found None none = inl (none_found required none)

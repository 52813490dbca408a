-- The first identifier that is the same as an earlier one.
use Rattle.std.proofs.Common.{◌≡◌, ◌<◌, ◌+◌, ℕ, true, false, Some, List, [], ◌∷◌, ◌++◌, length, take, get_or, sym, ap, subst, ◌∙◌, arith, inl, inr}
use Rattle.std.specs.List.{list_any, slice_get, Any}
use Rattle.std.proofs.lemmas.Bool.{cases_order, false≢true}
use Rattle.std.proofs.lemmas.Grind.{take_at_read}
use Rattle.std.proofs.lemmas.List.{get_or-take, get_or_default, take-take}
use Rattle.std.proofs.lemmas.List.Folds.{Any-from_list_any, list_any_at}
use Rattle.std.proofs.lemmas.List.Quantifiers.{all_pairs_push}
use Rattle.std.proofs.lemmas.Option.{slice_get-get_or, slice_get_within, get_or_from_slice_get}
use Rattle.std.proofs.Math.ListN.{length-take}
use Rattle.component_ids.specs.declared.id.ComponentId.{ComponentId}
use Rattle.component_ids.specs.Identifiers.{IsSameId, AreDistinct}
use Rattle.component_ids.specs.Causes.{IsFirstRepeated}
use Rattle.component_ids.specs.Sameness.{is_same}
use Rattle.byte_grammar.proofs.Indices.{some_and, some_and_parts, slice_get_take}
use Rattle.component_ids.proofs.SameLaws.{same_decides}

-- one more identifier that isn't there
pub distinct_more : (ids : List ComponentId) (i : ℕ) (id : ComponentId) → i < length ids → id ≡ get_or ids i id
    → list_any (λ other. is_same other id) (take i ids) ≡ false → AreDistinct (take i ids) → AreDistinct (take (i + 1) ids)
distinct_more ids i id lt is none distinct =
    let apart = λ (k : ℕ) (d : ComponentId) (k_lt : k < length (take i ids)) (s : IsSameId (get_or (take i ids) k d) id).
    false≢true (sym none ∙ list_any_at (λ (other : ComponentId). is_same other id) (take i ids) k d k_lt ((same_decides (get_or (take i ids) k d) id).1 s)) in
    let more : AreDistinct (take i ids ++ id ∷ []) = all_pairs_push (λ (a b : ComponentId). IsSameId a b → ⊥) (take i ids) id distinct apart in
    subst (λ (t : List ComponentId). AreDistinct t) (sym ((take_at_read ids i id lt).1 ∙ ap (λ (x : ComponentId). take i ids ++ x ∷ []) (sym is))) more

-- an identifier that is there
pub first_repeated_is : (ids : List ComponentId) (i : ℕ) (id : ComponentId) → i < length ids → id ≡ get_or ids i id
    → list_any (λ other. is_same other id) (take i ids) ≡ true → AreDistinct (take i ids) → IsFirstRepeated ids i
first_repeated_is ids i id lt is any distinct =
    let at = Any-from_list_any (λ (other : ComponentId). is_same other id) (take i ids) any in
    let there : slice_get ids i ≡ Some id = slice_get-get_or ids i id lt ∙ ap Some (sym is) in
    record {
      before = distinct;
      there = some_and (λ (id : ComponentId). Any (λ (earlier : ComponentId). IsSameId earlier id) (take i ids)) (slice_get ids i) id there
          (at.0, at.1, at.2, at.3, (same_decides at.1 id).0 at.4);
    }

-- no identifier is repeated where all are distinct
pub not_repeated : (ids : List ComponentId) (i : ℕ) → AreDistinct ids → IsFirstRepeated ids i → ⊥
not_repeated ids i distinct first =
    let here = some_and_parts (λ (id : ComponentId). Any (λ (earlier : ComponentId). IsSameId earlier id) (take i ids)) (slice_get ids i) first.there in
    let id = here.0 in
    let lt : i < length ids = slice_get_within ids i id here.1 in
    let is : get_or ids i id ≡ id = get_or_from_slice_get ids i id id here.1 in
    let at = here.2 in
    let k_lt : at.0 < i = omega (arith, length-take {A = ComponentId}, at.2) in
    let earlier_is : get_or ids at.0 id ≡ at.1 =
    get_or_default ids at.0 id at.1 (omega arith) ∙ (sym (get_or-take i ids at.0 at.1 k_lt) ∙ at.3) in
    let same : IsSameId (get_or ids at.0 id) (get_or ids i id) = rw (earlier_is, is) at.4 in
    distinct at.0 i id k_lt lt same

-- the first of a list is the first of its prefix
first_of_prefix : (ids : List ComponentId) (i j : ℕ) → i < j → IsFirstRepeated ids i → IsFirstRepeated (take j ids) i
first_of_prefix ids i j lt first =
    let prefix : take i (take j ids) ≡ take i ids = take-take i j ids (omega arith) in
    let there : slice_get (take j ids) i ≡ slice_get ids i = slice_get_take ids j i lt in
    record { before = rw prefix first.before; there = rw (prefix, there) first.there }

-- only one index is the first
pub first_repeated_once : (ids : List ComponentId) (i j : ℕ) → IsFirstRepeated ids i → IsFirstRepeated ids j → i ≡ j
first_repeated_once ids i j first second = elim (cases_order i j) [
  | inl same ↦ same
  | inr apart ↦ elim apart [
    | inl less ↦ absurd (not_repeated (take j ids) i second.before (first_of_prefix ids i j less first))
    | inr more ↦ absurd (not_repeated (take i ids) j first.before (first_of_prefix ids j i more second))
  ]
]

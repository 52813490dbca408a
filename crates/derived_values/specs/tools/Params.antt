-- What a list by name has of the pairs of a query. No public clause cites this.
use Rattle.std.specs.Prelude.{◌≡◌, ◌↔◌, ℕ, Bool, IsTrue, Option, Some, None, MatchOption, IfSome, List, [], slice_get}
use Rattle.sfv_text.specs.declared.pair.Pair.{Pair}
use Rattle.sfv_text.specs.Keys.{value_of}
use Rattle.derived_values.specs.Query.{QueryPair, matches, values_under}

-- the list of this place has the values; where there is no place, there are none
abbrev pub IsListed : List (List (List ℕ)) → Option ℕ → List (List ℕ) → Type 0
IsListed lists None values = values ≡ []
IsListed lists (Some place) values = slice_get lists place ≡ Some values

-- under each name the list of its place has what these pairs of a query have, and no other name has
-- that place
pub record AreListedIn (places : List (Pair ℕ)) (lists : List (List (List ℕ)))
    (done : List QueryPair) : Type 0 where
  pub each : (name : List ℕ) → IsListed lists (value_of places name) (values_under name done)
  pub own : (name other : List ℕ) (place : ℕ) → value_of places name ≡ Some place
      → value_of places other ≡ Some place → name ≡ other

-- of each name that the query has, whether the other has the same values under it
abbrev pub SaysWhichAreSame : List (Pair Bool) → List ℕ → List ℕ → Type 0
SaysWhichAreSame are_same query other = (name : List ℕ)
    → MatchOption (value_of are_same name) (matches query name ≡ [])
    (λ same. IsTrue same ↔ (matches query name ≡ matches other name))

-- the names of the first query are told but for those that are left of its list
pub record AreToldSoFar (are_same : List (Pair Bool)) (query other : List ℕ)
    (places left : List (Pair ℕ)) : Type 0 where
  pub told : (name : List ℕ) → IfSome (value_of are_same name)
      (λ same. IsTrue same ↔ (matches query name ≡ matches other name))
  pub rest : (name : List ℕ) → value_of are_same name ≡ None
      → value_of left name ≡ value_of places name

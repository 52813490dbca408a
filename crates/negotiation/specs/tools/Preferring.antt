-- The most preferred of the members that were looked at. No public clause cites this module.
use Rattle.std.specs.Prelude.{◌≡◌, ◌≤◌, ◌<◌, ℕ, Option, Some, None, List, take, slice_get}
use Rattle.std.specs.List.{All}
use Rattle.sfv_text.specs.declared.pair.Pair.{Pair}
use Rattle.sfv_text.specs.declared.value.Member.{Member}
use Rattle.content_digest.specs.Algorithms.{algorithm_of}
use Rattle.content_digest.specs.declared.algorithm.Algorithm.{Algorithm}
use Rattle.negotiation.specs.Preferences.{IsPreferred, preference_of}

-- the algorithm that the Dictionary prefers, or none is acceptable
abbrev pub IsMostPreferred : List (Pair Member) → Option Algorithm → Type 0
IsMostPreferred dict (Some algorithm) = IsPreferred dict algorithm
IsMostPreferred dict None = (algorithm : Algorithm) → ¬ IsPreferred dict algorithm

-- the algorithm is that of the first member with this preference, and it is acceptable
pub record IsFirstWith (dict : List (Pair Member)) (preference : ℕ) (algorithm : Algorithm)
    : Type 0 where
  pub index : ℕ
  pub member : Pair Member
  pub there : slice_get dict index ≡ Some member
  pub algorithm_is : algorithm_of member.key ≡ Some algorithm
  pub preference_is : preference_of member ≡ preference
  pub acceptable : 1 ≤ preference
  pub first : All (λ other. preference_of other < preference) (take index dict)

-- the algorithm is so, or there is none and nothing is acceptable
abbrev pub IsOfPreference : List (Pair Member) → ℕ → Option Algorithm → Type 0
IsOfPreference dict preference (Some algorithm) = IsFirstWith dict preference algorithm
IsOfPreference dict preference None = preference ≡ 0

-- the greatest preference of so many members, and its algorithm
pub record IsPreferredSoFar (dict : List (Pair Member)) (count greatest : ℕ)
    (algorithm : Option Algorithm) : Type 0 where
  pub none_greater : All (λ other. preference_of other ≤ greatest) (take count dict)
  pub is : IsOfPreference dict greatest algorithm

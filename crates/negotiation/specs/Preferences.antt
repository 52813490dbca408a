-- Which digest a field `Want-Content-Digest` asks for (RFC 9530 section 4).
use Rattle.std.specs.Prelude.{◌≡◌, ℕ, ℤ, pos, negsuc, ◌≤◌, ◌<◌, Bool, ◌||◌, not, nat_le, is_some, IsFalse, Option, Some, None, option_and_then, unwrap_or, List, take, slice_get, codes, if◌then◌else◌}
use Rattle.std.specs.List.{All, list_all}
use Rattle.sfv_text.specs.declared.pair.Pair.{Pair}
use Rattle.sfv_text.specs.declared.value.Member.{Member}
use Rattle.sfv_text.specs.declared.value.Member.TheVariants.{Item as ItemMember, InnerList as InnerMember}
use Rattle.sfv_text.specs.Parts.{integer_in}
use Rattle.msg_body.specs.Messages.{Message}
use Rattle.content_digest.specs.Algorithms.{algorithm_of}
use Rattle.content_digest.specs.Digests.{is_known}
use Rattle.content_digest.specs.declared.algorithm.Algorithm.{Algorithm}
use Rattle.signatures.specs.Signatures.{HasField, HasDict}

-- the field that asks for a digest of the content
abbrev pub want_digest_name : List ℕ
want_digest_name = codes "want-content-digest"

-- ---- a member of the Dictionary

-- the preference for what is preferred most
abbrev pub most_preferred : ℕ
most_preferred = 10

-- the number as a preference: from 0, which is not acceptable, to the most preferred
abbrev pub preference_of_number : ℤ → Option ℕ
preference_of_number (pos n) = if nat_le n most_preferred then Some n else None
preference_of_number (negsuc n) = None

-- the preference that a member says: an Integer; its parameters say nothing
abbrev pub preference_in : Member → Option ℕ
preference_in (ItemMember item) = option_and_then preference_of_number (integer_in item.bare)
preference_in (InnerMember list) = None

-- the member says a preference, where its algorithm is known
abbrev pub is_preference_sound : Pair Member → Bool
is_preference_sound member = not (is_known member) || is_some (preference_in member.value)

-- how much the member's algorithm is preferred: where it isn't known, it isn't acceptable
abbrev pub preference_of : Pair Member → ℕ
preference_of member =
    if is_known member then unwrap_or (preference_in member.value) 0 else 0

-- ---- the field

-- The Dictionary prefers the algorithm: it is that of a member that is acceptable, no member is
-- preferred more, and each one before it is preferred less.
pub record IsPreferred (dict : List (Pair Member)) (algorithm : Algorithm) : Type 0 where
  pub index : ℕ
  pub member : Pair Member
  pub there : slice_get dict index ≡ Some member
  pub algorithm_is : algorithm_of member.key ≡ Some algorithm
  pub acceptable : 1 ≤ preference_of member
  pub greatest : All (λ other. preference_of other ≤ preference_of member) dict
  pub first : All (λ other. preference_of other < preference_of member) (take index dict)

-- the message asks for the digest by the algorithm
abbrev pub IsChosen : Message → Algorithm → Type 0
IsChosen message algorithm =
    (dict : List (Pair Member)) × HasDict message want_digest_name dict
    × IsPreferred dict algorithm

-- the message has the field, and it is no Dictionary whose known members say preferences
abbrev pub IsWishMalformed : Message → Type 0
IsWishMalformed message =
    HasField message want_digest_name
    × ((dict : List (Pair Member)) → HasDict message want_digest_name dict
    → IsFalse (list_all is_preference_sound dict))

-- the message has the field, and no known algorithm is acceptable
abbrev pub IsUnacceptable : Message → Type 0
IsUnacceptable message =
    HasField message want_digest_name
    × ((algorithm : Algorithm) → ¬ IsChosen message algorithm)

-- the algorithm that the message asks for, or none where it doesn't have the field
abbrev pub IsWishedDigest : Message → Option Algorithm → Type 0
IsWishedDigest message None = ¬ HasField message want_digest_name
IsWishedDigest message (Some algorithm) = IsChosen message algorithm

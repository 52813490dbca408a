-- The field Content-Digest: RFC 9530 section 2.
use Rattle.std.specs.Prelude.{ℕ, Bool, true, false, ◌||◌, not, IsTrue, Option, Some, None, is_some, List, [], ◌∷◌, codes}
use Rattle.std.specs.List.{list_all, list_any}
use Rattle.std.specs.Str.{bytes_eq}
use Rattle.sfv_text.specs.declared.pair.Pair.{Pair}
use Rattle.sfv_text.specs.declared.value.BareItem.TheVariants.{Bytes}
use Rattle.sfv_text.specs.declared.value.Member.{Member}
use Rattle.sfv_text.specs.declared.value.Member.TheVariants.{Item as ItemMember}
use Rattle.sfv_text.specs.Parts.{byte_sequence_in}
use Rattle.sfv_read.specs.Reads.{ReadsDict}
use Rattle.content_digest.specs.declared.algorithm.Algorithm.{Algorithm}
use Rattle.content_digest.specs.Algorithms.{key_of, algorithm_of, digest_by}

-- ---- a member of the Dictionary

-- the member's key is that of a known algorithm
abbrev pub is_known : Pair Member → Bool
is_known member = is_some (algorithm_of member.key)

-- the member is a Byte Sequence, where its algorithm is known
abbrev pub is_sound : Pair Member → Bool
is_sound member = not (is_known member) || is_some (byte_sequence_in member.value)

-- the bytes are the content's digest by the algorithm, where one is known
abbrev pub is_digest : List ℕ → Option Algorithm → Option (List ℕ) → Bool
is_digest content None bytes = true
is_digest content (Some algorithm) None = false
is_digest content (Some algorithm) (Some bytes) = bytes_eq bytes (digest_by algorithm content)

-- the member is the content's digest, where its algorithm is known
abbrev pub agrees : List ℕ → Pair Member → Bool
agrees content member = is_digest content (algorithm_of member.key) (byte_sequence_in member.value)

-- ---- the field

-- the name of the field that has the digests of the content
abbrev pub digest_name : List ℕ
digest_name = codes "content-digest"

-- the field's value is a Dictionary with a member of a known algorithm at least, and each such
-- member is the content's digest
pub record DigestHolds (text content : List ℕ) : Type 0 where
  pub dict : List (Pair Member)
  pub reads : ReadsDict text dict
  pub known : IsTrue (list_any is_known dict)
  pub each : IsTrue (list_all (agrees content) dict)

-- the Dictionary that has the content's digest by the algorithm alone
abbrev pub digest_dict : Algorithm → List ℕ → List (Pair Member)
digest_dict algorithm content = record {
  key = key_of algorithm;
  value = ItemMember (record { bare = Bytes (digest_by algorithm content); params = [] });
} ∷ []

-- Why digests aren't accepted: RFC 9530 section 2.
use Rattle.std.specs.Prelude.{◌≡◌, ◌≢◌, ◌⊎◌, ℕ, IsTrue, IsFalse, Some, IsSomeAnd, List, take, slice_get, codes}
use Rattle.std.specs.List.{list_all, list_any}
use Rattle.byte_grammar.specs.Causes.{IsFirst}
use Rattle.sfv_text.specs.declared.pair.Pair.{Pair}
use Rattle.sfv_text.specs.declared.value.Member.{Member}
use Rattle.sfv_read.specs.declared.error.SfError.{SfError}
use Rattle.sfv_read.specs.declared.error.SfError.TheVariants as sf
use Rattle.sfv_read.specs.Reads.{ReadsDict}
use Rattle.content_digest.specs.declared.algorithm.Algorithm.{Algorithm}
use Rattle.content_digest.specs.declared.algorithm.Algorithm.TheVariants.{Sha256, Sha512}
use Rattle.content_digest.specs.declared.fault.DigestFault.{DigestFault}
use Rattle.content_digest.specs.declared.fault.DigestFault.TheVariants.{Memory, Malformed, NoneKnown, Mismatch}
use Rattle.content_digest.specs.Algorithms.{algorithm_of, digest_by}
use Rattle.sfv_text.specs.Parts.{byte_sequence_in}
use Rattle.content_digest.specs.Digests.{is_known, is_sound, agrees}

-- the fault of a text that is no Dictionary, for this error
abbrev pub fault_of : SfError → DigestFault
fault_of sf.Memory = Memory
fault_of (sf.Syntax offset) = Malformed

-- the word that output has for it
abbrev pub fault_text : DigestFault → List ℕ
fault_text Memory = codes "out of memory"
fault_text Malformed = codes "malformed"
fault_text NoneKnown = codes "none-known"
fault_text (Mismatch Sha256 kept computed) = codes "mismatch sha-256"
fault_text (Mismatch Sha512 kept computed) = codes "mismatch sha-512"

-- the member is of the algorithm, and its bytes are others than the content's digest
pub record Differs (content : List ℕ) (member : Pair Member) (algorithm : Algorithm)
    (kept computed : List ℕ) : Type 0 where
  pub algorithm_is : algorithm_of member.key ≡ Some algorithm
  pub kept_is : byte_sequence_in member.value ≡ Some kept
  pub computed_is : computed ≡ digest_by algorithm content
  pub apart : kept ≢ computed

-- the first member that doesn't agree with the content differs in this way
pub record IsMismatch (dict : List (Pair Member)) (content : List ℕ) (algorithm : Algorithm)
    (kept computed : List ℕ) : Type 0 where
  pub index : ℕ
  pub before : IsTrue (list_all (agrees content) (take index dict))
  pub there : IsSomeAnd (slice_get dict index)
      (λ member. Differs content member algorithm kept computed)

-- the text reads as a Dictionary of which this holds
abbrev pub ReadsAsDict : (List (Pair Member) → Type 0) → List ℕ → Type 0
ReadsAsDict Holds text = (dict : List (Pair Member)) × ReadsDict text dict × Holds dict

-- the fact for which the fault is answered; being out of memory is none of them
abbrev pub IsDigestCause : List ℕ → List ℕ → DigestFault → Type 0
IsDigestCause text content Malformed = ((dict : List (Pair Member)) → ¬ ReadsDict text dict)
    ⊎ ReadsAsDict (λ dict. IsFalse (list_all is_sound dict)) text
IsDigestCause text content NoneKnown = ReadsAsDict (λ dict. IsFalse (list_any is_known dict)) text
IsDigestCause text content (Mismatch algorithm kept computed) =
    ReadsAsDict (λ dict. IsMismatch dict content algorithm kept computed) text
IsDigestCause text content Memory = ⊥

-- the order in which the causes are judged
abbrev pub digest_order : DigestFault → ℕ
digest_order Malformed = 0
digest_order NoneKnown = 1
digest_order (Mismatch algorithm kept computed) = 2
digest_order Memory = 3

-- the fault's cause is the first that holds
abbrev pub IsDigestFault : List ℕ → List ℕ → DigestFault → Type 0
IsDigestFault text content fault = IsFirst digest_order (IsDigestCause text content) fault

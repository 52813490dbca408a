-- Each answer to bytes has its cause, and no two causes are met.
use Rattle.std.proofs.Common.{◌≡◌, ◌↔◌, ℕ, ◌<◌, List, refl, subst, ap, arith}
use Rattle.std.specs.Prelude.{Result, Ok, Err}
use Rattle.framing.specs.declared.chunks.ChunksRead.{ChunksRead}
use Rattle.framing.specs.declared.chunks.ChunksRead.TheVariants.{Whole, Partial}
use Rattle.framing.specs.declared.chunk_error.ChunkError.{ChunkError}
use Rattle.framing.specs.declared.chunk_error.ChunkError.TheVariants.{TooLong, Bad}
use Rattle.framing.specs.Chunks.{Chunks, SpellsChunks}
use Rattle.framing.specs.ChunkCauses.{IsContentTooLong, IsBadChunk, IsChunksCause, IsChunksError, AreChunksUnfinished, chunks_order}
use Rattle.framing.specs.Views.{chunks_of}
use Rattle.framing.specs.Outcome.{IsViewOfChunks}
use Rattle.framing.specs.tools.JudgedChunks.{ExplainsChunks}
use Rattle.framing.proofs.ChunkLaws.{one_chunks, no_fault_at_chunks, no_answer_yet, one_fault}

-- a bad byte is the fault where content isn't too long
pub bad_first : (bytes : List ℕ) (offset : ℕ) → IsBadChunk bytes offset → (IsContentTooLong bytes → ⊥) → IsChunksError bytes (Bad offset)
bad_first bytes offset bad short = record { holds = bad; none_before = none }
  where
    none : (other : ChunkError) → chunks_order other < 1 → ¬ IsChunksCause bytes other
    none TooLong less h = short h
    none (Bad j) less h = absurd (omega (arith, less))

pub found_is : (bytes : List ℕ) (result : Result ChunksRead ChunkError) → ExplainsChunks bytes result → (cs : Chunks) (used : ℕ) → SpellsChunks cs used bytes → IsViewOfChunks result cs used
found_is bytes (Ok (Whole view count)) x cs used s = one_chunks bytes (chunks_of view) cs count used x.within s.within x.spells.text s.text
found_is bytes (Ok Partial) x cs used s = x.no_end used cs s.text
found_is bytes (Err e) x cs used s = no_fault_at_chunks bytes cs used e s x

pub unfinished_is : (bytes : List ℕ) (result : Result ChunksRead ChunkError) → ExplainsChunks bytes result → AreChunksUnfinished bytes → result ≡ Ok Partial
unfinished_is bytes (Ok (Whole view count)) x u = absurd ((no_answer_yet bytes u).1 (chunks_of view) count x.spells)
unfinished_is bytes (Ok Partial) x u = refl
unfinished_is bytes (Err e) x u = absurd ((no_answer_yet bytes u).0 e x)

pub fault_is : (bytes : List ℕ) (result : Result ChunksRead ChunkError) → ExplainsChunks bytes result → (fault : ChunkError) → (result ≡ Err fault) ↔ IsChunksError bytes fault
fault_is bytes (Ok (Whole view count)) x fault = ((λ e. absurd cc), (λ is. absurd (no_fault_at_chunks bytes (chunks_of view) count fault x.spells is)))
fault_is bytes (Ok Partial) x fault = ((λ e. absurd cc), (λ is. absurd ((no_answer_yet bytes x).0 fault is)))
fault_is bytes (Err found) x fault = (
  (λ e. let same : found ≡ fault = cc in subst (IsChunksError bytes) same x),
  (λ is. ap Err (one_fault bytes found fault x is)),
)

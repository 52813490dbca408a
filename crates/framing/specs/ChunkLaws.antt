-- Laws of chunks.
use Rattle.std.specs.Prelude.{◌≡◌, ◌↔◌, ◌⊎◌, ℕ, ◌<◌, ◌≤◌, false, IsTrue, List, length, take}
use Rattle.std.specs.Fmt.{digits}
use Rattle.framing.specs.declared.chunk_limits.TheConstants.{MAX_CONTENT_BYTES}
use Rattle.framing.specs.Chunks.{Chunks, IsChunkLine, AreChunksText, SpellsChunks}
use Rattle.framing.specs.ChunkCauses.{BeginsChunks, IsChunksError, AreChunksUnfinished}
use Rattle.framing.specs.Sizes.{IsInChunks, add_up_to, sized_chunks}
use Rattle.framing.specs.declared.chunk_error.ChunkError.{ChunkError}

-- Bytes begin with at most one text of chunks, whatever the length of its content, and it is that
-- of one list of chunks.
abbrev pub OneChunks : Type 0
OneChunks =
    (bytes : List ℕ) (one other : Chunks) (n m : ℕ) → n ≤ length bytes → m ≤ length bytes →
    AreChunksText one (take n bytes) → AreChunksText other (take m bytes)
    → (one ≡ other) × (n ≡ m)

-- No text of chunks is a proper prefix of another, or of what begins another.
abbrev pub NoChunksInPrefix : Type 0
NoChunksInPrefix =
    (bytes : List ℕ) (cs : Chunks) (n : ℕ) →
    BeginsChunks bytes → n < length bytes → ¬ AreChunksText cs (take n bytes)

-- Bytes begin with chunks within the limit, or have a fault, or the end of chunks may still come.
abbrev pub EachHasAnAnswer : Type 0
EachHasAnAnswer =
    (bytes : List ℕ) →
    ((cs : Chunks) × (used : ℕ) × SpellsChunks cs used bytes)
    ⊎ ((fault : ChunkError) × IsChunksError bytes fault)
    ⊎ AreChunksUnfinished bytes

-- Bytes have at most one fault.
abbrev pub OneChunksFault : Type 0
OneChunksFault =
    (bytes : List ℕ) (fault other : ChunkError) →
    IsChunksError bytes fault → IsChunksError bytes other → fault ≡ other

-- Bytes that begin with chunks within the limit have no fault.
abbrev pub NoFaultAtChunks : Type 0
NoFaultAtChunks =
    (bytes : List ℕ) (cs : Chunks) (used : ℕ) (fault : ChunkError) →
    SpellsChunks cs used bytes → ¬ IsChunksError bytes fault

-- Bytes to which the end of chunks may still come have no fault, and begin with no chunks.
abbrev pub NoChunksAnswerYet : Type 0
NoChunksAnswerYet =
    (bytes : List ℕ) → AreChunksUnfinished bytes →
    ((fault : ChunkError) → ¬ IsChunksError bytes fault)
    × ((cs : Chunks) (used : ℕ) → ¬ SpellsChunks cs used bytes)

-- The hexadecimal digits of a size, without zeros before them, are a chunk line of that size.
abbrev pub IsLineOfSize : Type 0
IsLineOfSize = (size : ℕ) → size ≤ MAX_CONTENT_BYTES → IsChunkLine (digits 16 false size) size

-- Content is in chunks of sizes where they add up to its length, and then in one way.
abbrev pub IsInChunksWhereSized : Type 0
IsInChunksWhereSized =
    (sizes content : List ℕ) (chunks : Chunks) → IsInChunks sizes content chunks
    ↔ (IsTrue (add_up_to (length content) sizes) × (chunks ≡ sized_chunks sizes content))

-- What the reader of chunks answers.
use Rattle.std.specs.Prelude.{◌≡◌, ℕ, Result, Ok, Err, ⊤}
use Rattle.framing.specs.declared.chunks.ChunksRead.{ChunksRead}
use Rattle.framing.specs.declared.chunks.ChunksRead.TheVariants.{Whole, Partial}
use Rattle.framing.specs.declared.chunk_error.ChunkError.{ChunkError}
use Rattle.framing.specs.Chunks.{Chunks}
use Rattle.framing.specs.Views.{ChunksParts, chunks_of}

-- where the answer is a view and its length, this holds of them
abbrev pub IfWholeChunks : Result ChunksRead ChunkError → (ChunksParts → ℕ → Type 0) → Type 0
IfWholeChunks (Ok (Whole view used)) P = P view used
IfWholeChunks (Ok Partial) P = ⊤
IfWholeChunks (Err _) P = ⊤

-- the answer is a view of these chunks, and its length
abbrev pub IsViewOfChunks : Result ChunksRead ChunkError → Chunks → ℕ → Type 0
IsViewOfChunks (Ok (Whole view count)) cs used = (chunks_of view ≡ cs) × (count ≡ used)
IsViewOfChunks (Ok Partial) cs used = ⊥
IsViewOfChunks (Err error) cs used = ⊥

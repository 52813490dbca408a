-- Chunks one after the other, as the reader takes them. No public clause cites this module.
use Rattle.std.specs.Prelude.{◌≡◌, ℕ, zero, suc, ◌+◌, List, [], ◌∷◌, ◌++◌, length, codes, Option, Some, None}
use Rattle.byte_grammar.specs.tools.Languages.{Mapped}
use Rattle.framing.specs.Views.{ChunkSpan}
use Rattle.framing.specs.Chunks.{Chunk, IsChunkLine, IsChunk, IsExtension, chunk_text}

-- the texts of the readers, and their values
abbrev pub IsCrlf : List ℕ → List ℕ → Type 0
IsCrlf text v = (text ≡ codes "\r\n") × (codes "\r\n" ≡ v)

abbrev pub IsExtensionText : List ℕ → List ℕ → Type 0
IsExtensionText text v = (text ≡ v) × IsExtension v

abbrev pub IsLineText : List ℕ → List ℕ × ℕ → Type 0
IsLineText text l = (text ≡ l.0 ++ codes "\r\n") × IsChunkLine l.0 l.1

abbrev pub IsDataText : ℕ → List ℕ → List ℕ → Type 0
IsDataText size text v = (text ≡ v ++ codes "\r\n") × (length v ≡ size)

abbrev pub IsBody : List ℕ × ℕ → List ℕ → Option Chunk → Type 0
IsBody (line, zero) text o = (text ≡ []) × (None ≡ o)
IsBody (line, suc size) text o =
    Mapped (λ (d : List ℕ). Some (record { line = line; chunk_data = d }))
    (IsDataText (suc size)) text o

-- a chunk, or the last line
abbrev pub IsTurn : List ℕ → Option Chunk → Type 0
IsTurn text None = (line : List ℕ) × (text ≡ line ++ codes "\r\n") × IsChunkLine line 0
IsTurn text (Some c) = (text ≡ chunk_text c) × IsChunk c

-- the offsets of a chunk whose line begins at that offset
abbrev pub span_of : ℕ → Chunk → ChunkSpan
span_of offset c = record {
  line = offset;
  line_end = offset + length c.line;
  end = offset + length c.line + 2 + length c.chunk_data;
}

-- the offsets of chunks that begin at that offset
abbrev pub spans_of : ℕ → List Chunk → List ChunkSpan
spans_of offset [] = []
spans_of offset (c ∷ chunks) = span_of offset c ∷ spans_of (offset + length (chunk_text c)) chunks

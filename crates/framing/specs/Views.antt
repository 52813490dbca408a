-- What a view of chunks stands for.
use Rattle.std.specs.Prelude.{◌≡◌, ℕ, ◌+◌, ◌-◌, ◌<◌, ◌≤◌, List, [], ◌∷◌, length, map, take}
use Rattle.std.specs.List.{slice_range}
use Rattle.framing.specs.Chunks.{Chunk, Chunks, SpellsChunks}

-- where a chunk is, by offsets from where the chunks begin: where its line begins, where that ends,
-- and where its data ends
pub record ChunkSpan : Type 0 where
  pub line : ℕ
  pub line_end : ℕ
  pub end : ℕ

-- the bytes that spell chunks, where the chunks are in them, and where the last line begins
pub record ChunksParts : Type 0 where
  pub bytes : List ℕ
  pub spans : List ChunkSpan
  pub last : ℕ

-- the chunk at these offsets
abbrev pub chunk_at : List ℕ → ChunkSpan → Chunk
chunk_at bytes span = record {
  line = slice_range bytes span.line span.line_end;
  chunk_data = slice_range bytes (span.line_end + 2) span.end;
}

-- the chunks that the view stands for; the last two bytes are the CRLF after the last line
abbrev pub chunks_of : ChunksParts → Chunks
chunks_of parts = record {
  chunks = map (chunk_at parts.bytes) parts.spans;
  last = slice_range parts.bytes parts.last (length parts.bytes - 2);
}

-- From the one offset to the other chunks follow each other. After a chunk's line is CRLF,
-- which is two bytes, and after its data too.
abbrev pub ChunksFollow : ℕ → List ChunkSpan → ℕ → Type 0
ChunksFollow from [] to = from ≡ to
ChunksFollow from (span ∷ spans) to =
    (span.line ≡ from) × (span.line < span.line_end) × (span.line_end + 2 < span.end)
    × ChunksFollow (span.end + 2) spans to

-- the chunks, the last line and its CRLF fill the bytes
pub record ChunksFill (parts : ChunksParts) : Type 0 where
  pub chunks : ChunksFollow 0 parts.spans parts.last
  pub last : parts.last + 2 < length parts.bytes

-- the view is that of the chunks which the first bytes, so many, spell
pub record IsChunksViewOf (bytes : List ℕ) (parts : ChunksParts) (used : ℕ) : Type 0 where
  pub within : used ≤ length bytes
  pub bytes_are : parts.bytes ≡ take used bytes
  pub spells : SpellsChunks (chunks_of parts) used bytes
  pub fills : ChunksFill parts

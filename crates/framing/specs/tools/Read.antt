-- The chunks that are read from bytes. No public clause cites this module.
use Rattle.std.specs.Prelude.{◌≡◌, ℕ, List, [], length, Result, Ok, Err}
use Rattle.byte_grammar.specs.tools.Walks.{turns_read}
use Rattle.framing.specs.Chunks.{Chunk, content_of}
use Rattle.framing.specs.Views.{ChunksParts, chunks_of}
use Rattle.framing.specs.tools.ChunkWalk.{turn_read}
use Rattle.framing.specs.tools.Turns.{spans_of}

-- what was read
abbrev pub chunks_read : Result (List Chunk × List ℕ) ℕ → List Chunk
chunks_read (Ok read) = read.0
chunks_read (Err left) = []

-- the chunks before the last line
abbrev pub chunks_in : List ℕ → List Chunk
chunks_in bytes = chunks_read (turns_read turn_read bytes)

-- chunks and a last line are there
abbrev pub IsReadable : List ℕ → Type 0
IsReadable bytes =
    (chunks : List Chunk) × (rest : List ℕ) × (turns_read turn_read bytes ≡ Ok (chunks, rest))

-- the bytes, and where the chunks are in them
abbrev pub parts_in : List ℕ → ℕ → ChunksParts
parts_in bytes last = record { bytes = bytes; spans = spans_of 0 (chunks_in bytes); last = last }

-- the bytes are those of so many chunks, with so much content
pub record AreRead (bytes : List ℕ) (last count content : ℕ) : Type 0 where
  pub readable : IsReadable bytes
  pub are : (chunks_of (parts_in bytes last)).chunks ≡ chunks_in bytes
  pub count_is : count ≡ length (parts_in bytes last).spans
  pub counted : content ≡ length (content_of (chunks_of (parts_in bytes last)))

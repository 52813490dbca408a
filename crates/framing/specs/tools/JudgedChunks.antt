-- What the search for chunks gives. No public clause cites this module.
use Rattle.std.specs.Prelude.{◌≡◌, ℕ, ◌+◌, ◌≤◌, List, ◌++◌, length, take, Result, Ok, Err}
use Rattle.std.specs.List.{All, flat_map}
use Rattle.byte_grammar.specs.tools.Walks.{turns_read, with_prefix}
use Rattle.framing.specs.declared.chunk_limits.TheConstants.{MAX_CONTENT_BYTES}
use Rattle.framing.specs.declared.chunks.Found.{Found}
use Rattle.framing.specs.declared.chunks.Stop.{Stop}
use Rattle.framing.specs.declared.chunks.Stop.TheVariants as stop
use Rattle.framing.specs.declared.chunks.ChunksRead.{ChunksRead}
use Rattle.framing.specs.declared.chunks.ChunksRead.TheVariants.{Whole, Partial}
use Rattle.framing.specs.declared.chunk_error.ChunkError.{ChunkError}
use Rattle.framing.specs.Chunks.{Chunk, IsChunk, chunk_text, data_of}
use Rattle.framing.specs.ChunkCauses.{HasContentOver, IsContentTooLong, IsChunksError, AreChunksUnfinished}
use Rattle.framing.specs.Views.{ChunksParts, IsChunksViewOf}
use Rattle.framing.specs.tools.ChunkWalk.{turn_read}
use Rattle.framing.specs.tools.Read.{AreRead, parts_in}

-- what the found offsets say of the bytes
abbrev pub parts_of : List ℕ → Found → ChunksParts
parts_of bytes found = parts_in (take found.used bytes) found.last

pub record IsFound (bytes : List ℕ) (found : Found) : Type 0 where
  pub view : IsChunksViewOf bytes (parts_of bytes found) found.used
  pub read : AreRead (take found.used bytes) found.last found.count found.content

-- why none are found
abbrev pub IsStop : List ℕ → Stop → Type 0
IsStop bytes stop.TooLong = IsContentTooLong bytes
IsStop bytes (stop.Left n) = (turns_read turn_read bytes ≡ Err n) × ¬ IsContentTooLong bytes

-- So many chunks are read, and the bytes that are left come after them. So much room is left for
-- content.
pub record Finding (bytes : List ℕ) (count : ℕ) (left : List ℕ) (room : ℕ) : Type 0 where
  pub done : List Chunk
  pub joined : bytes ≡ flat_map chunk_text done ++ left
  pub each : All IsChunk done
  pub count_is : count ≡ length done
  pub few : count + room ≤ MAX_CONTENT_BYTES
  pub counted : length (data_of done) + room ≡ MAX_CONTENT_BYTES
  pub so_far : with_prefix done (turns_read turn_read left) ≡ turns_read turn_read bytes
  pub long : IsContentTooLong bytes → HasContentOver room left

-- the answer's fact: a view, no last line yet, or the first cause that holds
abbrev pub ExplainsChunks : List ℕ → Result ChunksRead ChunkError → Type 0
ExplainsChunks bytes (Ok (Whole view used)) = IsChunksViewOf bytes view used
ExplainsChunks bytes (Ok Partial) = AreChunksUnfinished bytes
ExplainsChunks bytes (Err fault) = IsChunksError bytes fault

-- Why bytes are refused as chunks, and when their end may still come.
use Rattle.std.specs.Prelude.{◌≡◌, ℕ, ◌+◌, ◌<◌, List, ◌++◌, length, take, codes}
use Rattle.std.specs.List.{All, flat_map}
use Rattle.byte_grammar.specs.Language.{Begins}
use Rattle.byte_grammar.specs.Causes.{IsFirst}
use Rattle.framing.specs.declared.chunk_limits.TheConstants.{MAX_CONTENT_BYTES}
use Rattle.framing.specs.declared.chunk_error.ChunkError.{ChunkError}
use Rattle.framing.specs.declared.chunk_error.ChunkError.TheVariants.{TooLong, Bad}
use Rattle.framing.specs.Chunks.{Chunk, Chunks, IsChunkLine, IsChunk, AreChunksText, chunk_text, data_of}

-- some text of chunks has this prefix; no limit is set on its content
abbrev pub BeginsChunks : List ℕ → Type 0
BeginsChunks prefix = Begins (λ bytes (cs : Chunks). AreChunksText cs bytes) prefix

-- no prefix of the bytes is the text of chunks
abbrev pub NoPrefixIsChunks : List ℕ → Type 0
NoPrefixIsChunks bytes = (n : ℕ) (cs : Chunks) → ¬ AreChunksText cs (take n bytes)

-- The bytes are chunks, a chunk line, its CRLF, and more. The data of these chunks and the size of
-- the line make more content than the limit.
pub record HasContentOver (limit : ℕ) (bytes : List ℕ) : Type 0 where
  pub chunks : List Chunk
  pub line : List ℕ
  pub size : ℕ
  pub more : List ℕ
  pub joined : bytes ≡ flat_map chunk_text chunks ++ (line ++ (codes "\r\n" ++ more))
  pub each : All IsChunk chunks
  pub is : IsChunkLine line size
  pub long : limit < length (data_of chunks) + size

-- content has more bytes than it may have
abbrev pub IsContentTooLong : List ℕ → Type 0
IsContentTooLong bytes = HasContentOver MAX_CONTENT_BYTES bytes

-- the offset is the first at which the bytes up to and with it begin no chunks, and no chunks end
-- before it
pub record IsBadChunk (bytes : List ℕ) (offset : ℕ) : Type 0 where
  pub within : offset < length bytes
  pub begins : BeginsChunks (take offset bytes)
  pub last : ¬ BeginsChunks (take (offset + 1) bytes)
  pub no_end : NoPrefixIsChunks (take offset bytes)

-- the fact for which the fault is answered
abbrev pub IsChunksCause : List ℕ → ChunkError → Type 0
IsChunksCause bytes TooLong = IsContentTooLong bytes
IsChunksCause bytes (Bad offset) = IsBadChunk bytes offset

-- The order in which the causes are judged. Where content is too long, what shows it begins chunks,
-- so a bad byte comes only after it.
abbrev pub chunks_order : ChunkError → ℕ
chunks_order TooLong = 0
chunks_order (Bad offset) = 1

-- the fault's cause is the first that holds
abbrev pub IsChunksError : List ℕ → ChunkError → Type 0
IsChunksError bytes fault = IsFirst chunks_order (IsChunksCause bytes) fault

-- the last line isn't there, and may still come with its CRLF
pub record AreChunksUnfinished (bytes : List ℕ) : Type 0 where
  pub begins : BeginsChunks bytes
  pub no_end : NoPrefixIsChunks bytes
  pub short : ¬ IsContentTooLong bytes

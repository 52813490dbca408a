-- The words that output has for what chunks are refused for.
use Rattle.std.specs.Prelude.{ℕ, List, ◌++◌, codes}
use Rattle.std.specs.Fmt.{decimal}
use Rattle.framing.specs.declared.chunk_limits.TheConstants.{MAX_CONTENT_BYTES}
use Rattle.framing.specs.declared.chunk_error.ChunkError.{ChunkError}
use Rattle.framing.specs.declared.chunk_error.ChunkError.TheVariants.{TooLong, Bad}

-- the word of the fault, with the limit that is passed, or where the fault is
abbrev pub chunk_error_text : ChunkError → List ℕ
chunk_error_text TooLong = codes "content " ++ decimal MAX_CONTENT_BYTES
chunk_error_text (Bad offset) = codes "chunk " ++ decimal offset

-- The errors of a message's parts.
use Rattle.std.specs.Prelude.{ℕ, ◌+◌}
use Rattle.msg_head.specs.declared.error.HeadError.{HeadError}
use Rattle.msg_head.specs.declared.error.HeadError.TheVariants as head
use Rattle.framing.specs.declared.chunk_error.ChunkError.{ChunkError}
use Rattle.framing.specs.declared.chunk_error.ChunkError.TheVariants as chunk
use Rattle.framing.specs.declared.error.FramingError.{FramingError}
use Rattle.framing.specs.declared.error.FramingError.TheVariants as framing
use Rattle.msg_body.specs.declared.error.MessageError.{MessageError}
use Rattle.msg_body.specs.declared.error.MessageError.TheVariants.{Memory, TooLong, NakedEnd, BadStart, TooManyLines, BadLine, FramingConflict, BadLength, CodingRefused, BadChunk, ContentTooLong}

-- the error of a message for this error of its head
abbrev pub error_of : HeadError → MessageError
error_of head.Memory = Memory
error_of (head.TooLong side) = TooLong side
error_of (head.NakedEnd offset) = NakedEnd offset
error_of head.BadStart = BadStart
error_of (head.TooManyLines side) = TooManyLines side
error_of (head.BadLine side index) = BadLine side index

-- the error of a message for this error of what says how its content ends
abbrev pub framing_error : FramingError → MessageError
framing_error framing.Conflict = FramingConflict
framing_error framing.BadLength = BadLength
framing_error framing.CodingRefused = CodingRefused

-- the error of a message for this error of its chunks, which begin at the offset
abbrev pub chunk_error : ℕ → ChunkError → MessageError
chunk_error start chunk.TooLong = ContentTooLong
chunk_error start (chunk.Bad offset) = BadChunk (start + offset)

-- the error of a message for this error of its trailer section, which begins at the offset
abbrev pub trailer_error : ℕ → HeadError → MessageError
trailer_error start head.Memory = Memory
trailer_error start (head.TooLong side) = TooLong side
trailer_error start (head.NakedEnd offset) = NakedEnd (start + offset)
trailer_error start head.BadStart = BadStart
trailer_error start (head.TooManyLines side) = TooManyLines side
trailer_error start (head.BadLine side index) = BadLine side index

-- The words that output has for what a message is refused for: those of its parts, and two more.
use Rattle.std.specs.Prelude.{ℕ, List, ◌++◌, codes}
use Rattle.std.specs.Fmt.{decimal}
use Rattle.msg_head.specs.declared.error.HeadError.TheVariants as head
use Rattle.msg_head.specs.Words.{head_error_text}
use Rattle.framing.specs.declared.chunk_error.ChunkError.TheVariants as chunk
use Rattle.framing.specs.ChunkWords.{chunk_error_text}
use Rattle.framing.specs.declared.error.FramingError.TheVariants as framing
use Rattle.framing.specs.Words.{framing_error_text}
use Rattle.msg_body.specs.declared.error.MessageError.{MessageError}
use Rattle.msg_body.specs.declared.error.MessageError.TheVariants.{Memory, TooLong, NakedEnd, BadStart, TooManyLines, BadLine, FramingConflict, BadLength, CodingRefused, BadChunk, ContentTooLong}
use Rattle.msg_body.specs.declared.error.MessageFault.{MessageFault}
use Rattle.msg_body.specs.declared.error.MessageFault.TheVariants.{Refused, Truncated, Trailing}

-- the word of the error, which is that of the part's error
abbrev pub message_error_text : MessageError → List ℕ
message_error_text Memory = head_error_text head.Memory
message_error_text (TooLong side) = head_error_text (head.TooLong side)
message_error_text (NakedEnd offset) = head_error_text (head.NakedEnd offset)
message_error_text BadStart = head_error_text head.BadStart
message_error_text (TooManyLines side) = head_error_text (head.TooManyLines side)
message_error_text (BadLine side index) = head_error_text (head.BadLine side index)
message_error_text FramingConflict = framing_error_text framing.Conflict
message_error_text BadLength = framing_error_text framing.BadLength
message_error_text CodingRefused = framing_error_text framing.CodingRefused
message_error_text (BadChunk offset) = chunk_error_text (chunk.Bad offset)
message_error_text ContentTooLong = chunk_error_text chunk.TooLong

-- the word of the error, or how many bytes there are, or where further ones begin
abbrev pub message_fault_text : MessageFault → List ℕ
message_fault_text (Refused error) = message_error_text error
message_fault_text (Truncated count) = codes "truncated " ++ decimal count
message_fault_text (Trailing offset) = codes "trailing " ++ decimal offset

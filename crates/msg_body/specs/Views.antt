-- What the view of a message stands for.
use Rattle.std.specs.Prelude.{◌≡◌, ⊤, ℕ, ◌+◌, Bool, true, false, IsTrue, List, ◌++◌, length, take, drop}
use Rattle.msg_head.specs.declared.error.Side.{Side}
use Rattle.msg_head.specs.declared.error.Side.TheVariants.{Header, Trailer}
use Rattle.msg_head.specs.Heads.{head_text}
use Rattle.msg_head.specs.Lines.{FieldLine}
use Rattle.msg_head.specs.Starts.{start_text}
use Rattle.msg_head.specs.Views.{View, IsViewOf, head_of}
use Rattle.msg_head.specs.TrailerViews.{TrailerParts, TrailerFills, trailer_lines_of}
use Rattle.framing.specs.Chunks.{chunks_text}
use Rattle.framing.specs.Views.{ChunksParts, ChunksFill, chunks_of}
use Rattle.framing.specs.declared.kind.Framing.{Framing}
use Rattle.msg_body.specs.declared.expect.Expect.{Expect}
use Rattle.msg_body.specs.Bodies.{Body, plain, chunked, content_in, trailers_in}
use Rattle.msg_body.specs.Messages.{Message, SpellsMessage, is_expected}

-- the content's bytes, or the views of the chunks and of the trailer section
pub data BodyParts : Type 0 where
  plain_parts : List ℕ → BodyParts
  chunked_parts : ChunksParts → TrailerParts → BodyParts

-- the body that the view stands for
abbrev pub body_of : BodyParts → Body
body_of (plain_parts content) = plain content
body_of (chunked_parts chunks trailer) = chunked (chunks_of chunks) (trailer_lines_of trailer)

-- the bytes of the body
abbrev pub body_bytes : BodyParts → List ℕ
body_bytes (plain_parts content) = content
body_bytes (chunked_parts chunks trailer) = chunks.bytes ++ trailer.bytes

-- chunks and field lines, with colons and line ends, fill their bytes
abbrev pub BodyFills : BodyParts → Type 0
BodyFills (plain_parts content) = ⊤
BodyFills (chunked_parts chunks trailer) = ChunksFill chunks × TrailerFills trailer

-- the view of a message's head, its framing, and the view of its body
pub record MessageParts : Type 0 where
  pub head : View
  pub framing : Framing
  pub body : BodyParts

-- the message that the view stands for
abbrev pub message_of : MessageParts → Message
message_of parts = record {
  head = head_of parts.head;
  framing = parts.framing;
  body = body_of parts.body;
}

-- the message's field lines on the side
abbrev pub lines_on : Side → Message → List FieldLine
lines_on Header message = message.head.lines
lines_on Trailer message = trailers_in message.body

-- the bytes of the body before the trailer section
abbrev pub body_before : Body → List ℕ
body_before (plain content) = content
body_before (chunked chunks trailers) = chunks_text chunks

-- content that isn't in chunks has no trailer section
abbrev pub has_trailers : Body → Bool
has_trailers (plain content) = false
has_trailers (chunked chunks trailers) = true

-- How many bytes are before the first field line of the side, or before what comes in its place:
-- the start line, or all before the trailer section.
abbrev pub lines_start : Side → Message → ℕ
lines_start Header message = length (start_text message.head.start)
lines_start Trailer message = length (head_text message.head) + length (body_before message.body)

-- the message's content, chunks taken off
abbrev pub message_content : Message → List ℕ
message_content message = content_in message.body

-- The view is that of the message which the first bytes, so many, spell, and of the expected kind.
-- The bytes of its body are those that come after the bytes of its head.
pub record IsMessageViewOf (expect : Expect) (to_head : Bool) (bytes : List ℕ)
    (parts : MessageParts) (used : ℕ) : Type 0 where
  pub head_used : ℕ
  pub head : IsViewOf bytes parts.head head_used
  pub spells : SpellsMessage to_head (message_of parts) used bytes
  pub expected : IsTrue (is_expected expect parts.head.start)
  pub body : body_bytes parts.body ≡ drop head_used (take used bytes)
  pub fills : BodyFills parts.body

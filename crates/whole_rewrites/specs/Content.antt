-- What a rewriting makes of the way in which content is sent: in chunks, in other chunks, or as it
-- is (RFC 9112 sections 6 and 7.1).
use Rattle.std.specs.Prelude.{◌≡◌, ℕ, Bool, List, [], length, codes}
use Rattle.std.specs.Fmt.{decimal}
use Rattle.msg_head.specs.Heads.{Head}
use Rattle.msg_head.specs.Lines.{FieldLine}
use Rattle.framing.specs.Chunks.{Chunks, content_of}
use Rattle.framing.specs.Sizes.{IsInChunks}
use Rattle.framing.specs.declared.kind.Framing.TheVariants.{Length}
use Rattle.framing.specs.Framings.{framing_of}
use Rattle.msg_body.specs.Bodies.{Body, plain, chunked}
use Rattle.msg_body.specs.Messages.{Message}
use Rattle.component_values.specs.Context.{MessageContext, answers_head}
use Rattle.line_rewrites.specs.LineLists.{line_of}
use Rattle.whole_rewrites.specs.Lines.{IsLineFor}

-- ---- chunks

-- `rechunk`: the chunks become those of these sizes. That no size is 0 is said of messages.
pub record IsRechunked (context : MessageContext) (sizes : List ℕ) (made : Message)
    : Type 0 where
  pub old : Chunks
  pub chunks : Chunks
  pub trailers : List FieldLine
  pub body_is : context.message.body ≡ chunked old trailers
  pub are : IsInChunks sizes (content_of old) chunks
  pub made_is : made ≡ record {
    head = context.message.head;
    framing = context.message.framing;
    body = chunked chunks trailers;
  }

-- ---- framings

-- the message of this head and this body, framed as the head says (RFC 9112 section 6.3)
abbrev pub framed : Bool → Head → Body → Message
framed to_head head body =
    record { head = head; framing = framing_of to_head head; body = body }

-- The body becomes the other, the line of the one name this line in its place, and all else stays.
pub record IsSentAs (context : MessageContext) (name : List ℕ) (new : FieldLine) (body : Body)
    (made : Message) : Type 0 where
  pub lines : List FieldLine
  pub line : IsLineFor name new context.message.head.lines lines
  pub made_is : made ≡ framed (answers_head context.related)
      (record { start = context.message.head.start; lines = lines }) body

-- the line that says that content is in chunks (RFC 9112 section 6.1)
abbrev pub coding_line : FieldLine
coding_line = line_of (codes "Transfer-Encoding") (codes "chunked")

-- the line of the content's length (RFC 9112 section 6.2)
abbrev pub length_line : ℕ → FieldLine
length_line count = line_of (codes "Content-Length") (decimal count)

-- `chunk`: content of a length comes in chunks of these sizes. Of which version the message is, is
-- said of messages.
pub record IsChunked (context : MessageContext) (sizes : List ℕ) (made : Message) : Type 0 where
  pub content : List ℕ
  pub chunks : Chunks
  pub framing : context.message.framing ≡ Length
  pub body_is : context.message.body ≡ plain content
  pub are : IsInChunks sizes content chunks
  pub sent : IsSentAs context (codes "content-length") coding_line (chunked chunks []) made

-- `dechunk`: content in chunks, after which no trailer lines come, is sent as it is
pub record IsDechunked (context : MessageContext) (made : Message) : Type 0 where
  pub chunks : Chunks
  pub body_is : context.message.body ≡ chunked chunks []
  pub sent : IsSentAs context (codes "transfer-encoding")
      (length_line (length (content_of chunks))) (plain (content_of chunks)) made

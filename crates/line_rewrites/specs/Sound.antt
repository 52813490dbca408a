-- Messages whatever their size: all that a message has but the limits (RFC 9112 section 2.1).
use Rattle.std.specs.Prelude.{◌≡◌, ⊤, ◌≤◌, ◌+◌, Bool, length}
use Rattle.std.specs.List.{All}
use Rattle.msg_head.specs.declared.limits.TheConstants.{MAX_HEAD_BYTES}
use Rattle.msg_head.specs.Lines.{IsLine}
use Rattle.msg_head.specs.Starts.{StartLine, IsStartLine, start_text}
use Rattle.framing.specs.Chunks.{AreChunks}
use Rattle.framing.specs.Framings.{framing_of}
use Rattle.msg_body.specs.Bodies.{Body, plain, chunked}
use Rattle.msg_body.specs.Messages.{Message}

-- the line has room in a head
abbrev pub Fits : StartLine → Type 0
Fits line = length (start_text line) + 2 ≤ MAX_HEAD_BYTES

-- chunks, and field lines after them
abbrev pub IsSoundBody : Body → Type 0
IsSoundBody (plain content) = ⊤
IsSoundBody (chunked chunks trailers) = AreChunks chunks × All IsLine trailers

-- the parts are those of a message but for the limits on its lines and its content; how its content
-- ends isn't asked
pub record IsSoundMessage (to_head : Bool) (message : Message) : Type 0 where
  pub start : IsStartLine message.head.start
  pub fits : Fits message.head.start
  pub lines : All IsLine message.head.lines
  pub framing : message.framing ≡ framing_of to_head message.head
  pub body : IsSoundBody message.body

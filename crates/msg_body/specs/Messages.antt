-- Messages: RFC 9112 sections 2.1 and 6.
use Rattle.std.specs.Prelude.{◌≡◌, ℕ, ◌≤◌, Bool, true, not, List, ◌++◌, length, take}
use Rattle.msg_head.specs.Starts.{StartLine}
use Rattle.msg_head.specs.Heads.{Head, IsHead, head_text}
use Rattle.framing.specs.declared.chunk_limits.TheConstants.{MAX_CONTENT_BYTES}
use Rattle.framing.specs.declared.kind.Framing.{Framing}
use Rattle.framing.specs.declared.kind.Framing.TheVariants.{ToEnd}
use Rattle.framing.specs.Framings.{IsFramable, is_request, framing_of, content_length_of}
use Rattle.msg_body.specs.declared.expect.Expect.{Expect}
use Rattle.msg_body.specs.declared.expect.Expect.TheVariants.{Request, Response, Any}
use Rattle.msg_body.specs.declared.limits.TheConstants.{MAX_MESSAGE_BYTES}
use Rattle.msg_body.specs.Bodies.{Body, IsBodyOf, body_text, content_in}

-- a head, what says where the content ends, and what comes after the head
pub record Message : Type 0 where
  pub head : Head
  pub framing : Framing
  pub body : Body

-- the start line is of the kind that is expected
abbrev pub is_expected : Expect → StartLine → Bool
is_expected Request start = is_request start
is_expected Response start = not (is_request start)
is_expected Any start = true

-- the text of a message: its head, and then its body (RFC 9112 section 2.1)
abbrev pub message_text : Message → List ℕ
message_text message = head_text message.head ++ body_text message.body

-- the message with this head in place of its own
abbrev pub with_head : Message → Head → Message
with_head message head =
    record { head = head; framing = message.framing; body = message.body }

-- The parts are those that a message has, within the limits that are set here. A response answers a
-- HEAD request where `to_head` says so, and has no content then.
pub record IsMessage (to_head : Bool) (message : Message) : Type 0 where
  pub head : IsHead message.head
  pub framable : IsFramable message.head
  pub framing : message.framing ≡ framing_of to_head message.head
  pub body : IsBodyOf message.framing (content_length_of message.head) message.body
  pub content : length (content_in message.body) ≤ MAX_CONTENT_BYTES
  pub short : length (message_text message) ≤ MAX_MESSAGE_BYTES

-- the bytes are a message's text, and nothing more
pub record Spells (to_head : Bool) (message : Message) (bytes : List ℕ) : Type 0 where
  pub is : IsMessage to_head message
  pub text : bytes ≡ message_text message

-- The first bytes, so many, are a message's text. Content that goes to the end takes all bytes.
pub record SpellsMessage (to_head : Bool) (message : Message) (used : ℕ) (bytes : List ℕ)
    : Type 0 where
  pub within : used ≤ length bytes
  pub spells : Spells to_head message (take used bytes)
  pub all : message.framing ≡ ToEnd → used ≡ length bytes

-- The bytes of a message, by the field lines of a side (RFC 9112 sections 2.1 and 7.1.2).
use Rattle.std.specs.Prelude.{ℕ, Bool, true, List, [], ◌++◌, codes}
use Rattle.std.specs.List.{flat_map}
use Rattle.msg_head.specs.declared.error.Side.{Side}
use Rattle.msg_head.specs.declared.error.Side.TheVariants.{Header, Trailer}
use Rattle.msg_head.specs.Heads.{head_text}
use Rattle.msg_head.specs.Lines.{FieldLine, line_text}
use Rattle.msg_head.specs.Starts.{start_text}
use Rattle.msg_body.specs.Bodies.{Body, plain, chunked, body_text, trailers_in}
use Rattle.msg_body.specs.Messages.{Message}
pub use Rattle.msg_body.specs.Views.{body_before, has_trailers}

-- the bytes before the lines of the side, the lines, and the bytes after them
pub record SideParts : Type 0 where
  pub before : List ℕ
  pub lines : List FieldLine
  pub after : List ℕ

-- the lines one after the other
abbrev pub lines_text : List FieldLine → List ℕ
lines_text lines = flat_map line_text lines

-- all bytes of the parts, these lines in place of their own
abbrev pub text_with : SideParts → List FieldLine → List ℕ
text_with parts lines = parts.before ++ (lines_text lines ++ parts.after)

-- the bytes of the body after the lines of its trailer section
abbrev pub body_after : Body → List ℕ
body_after (plain content) = []
body_after (chunked chunks trailers) = codes "\r\n"

-- the parts of the message, by the side
abbrev pub side_parts : Side → Message → SideParts
side_parts Header message = record {
  before = start_text message.head.start;
  lines = message.head.lines;
  after = codes "\r\n" ++ body_text message.body;
}
side_parts Trailer message = record {
  before = head_text message.head ++ body_before message.body;
  lines = trailers_in message.body;
  after = body_after message.body;
}

-- the message has the side
abbrev pub has_side : Side → Message → Bool
has_side Header message = true
has_side Trailer message = has_trailers message.body

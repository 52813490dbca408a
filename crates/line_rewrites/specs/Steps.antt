-- The message that a rewriting of field lines gives: a row for each kind. A step that has no such
-- message isn't applicable.
use Rattle.std.specs.Prelude.{◌≡◌, Bool, List}
use Rattle.msg_head.specs.declared.error.Side.{Side}
use Rattle.msg_head.specs.declared.error.Side.TheVariants.{Header, Trailer}
use Rattle.msg_head.specs.Heads.{Head}
use Rattle.msg_head.specs.Lines.{FieldLine}
use Rattle.framing.specs.Framings.{framing_of}
use Rattle.msg_body.specs.Bodies.{Body, plain, chunked}
use Rattle.msg_body.specs.Messages.{Message, IsMessage}
use Rattle.msg_body.specs.Views.{lines_on}
use Rattle.component_values.specs.Context.{MessageContext, answers_head}
use Rattle.rewrite_script.specs.declared.rewrite.LineRewrite.{LineRewrite}
use Rattle.rewrite_script.specs.declared.rewrite.LineRewrite.TheVariants.{Pad, Fold, Unfold, Join, Split, Move, Case, Add, Remove}
use Rattle.line_rewrites.specs.RawValues.{IsPadded, IsFolded, IsUnfolded}
use Rattle.line_rewrites.specs.LineLists.{line_of, Replaces, ChangesRaw, IsRenamed, IsJoined, IsSplit, IsAdded, IsRemoved, IsMoved}

-- ---- messages with other lines

-- the message of this head: how its content ends is what the head says (RFC 9112 section 6.3)
abbrev pub with_head : Bool → Message → Head → Message
with_head to_head message head = record {
  head = head;
  framing = framing_of to_head head;
  body = message.body;
}

-- the body with these lines in its trailer section, where it has one
abbrev pub with_trailers : List FieldLine → Body → Body
with_trailers lines (plain content) = plain content
with_trailers lines (chunked chunks trailers) = chunked chunks lines

-- the message with these lines on the side
abbrev pub with_lines_on : Bool → Side → Message → List FieldLine → Message
with_lines_on to_head Header message lines =
    with_head to_head message (record { start = message.head.start; lines = lines })
with_lines_on to_head Trailer message lines = record {
  head = message.head;
  framing = message.framing;
  body = with_trailers lines message.body;
}

-- The lines of the side change so, and all else stays: the start line, the lines of the other side,
-- and the content with its chunks. The result is a message, within the limits.
pub record ChangesLines (context : MessageContext) (side : Side)
    (Change : List FieldLine → List FieldLine → Type 0) (after : Message) : Type 0 where
  pub lines : List FieldLine
  pub change : Change (lines_on side context.message) lines
  pub after_is : after ≡ with_lines_on (answers_head context.related) side context.message lines
  -- content that isn't in chunks has no trailer section
  pub there : lines_on side after ≡ lines
  pub message : IsMessage (answers_head context.related) after

-- ---- kinds

-- the step gives the message
abbrev pub LineStep : MessageContext → LineRewrite → Message → Type 0
LineStep context (Pad side index before after) result =
    ChangesLines context side (Replaces (ChangesRaw (IsPadded before after)) index) result
LineStep context (Fold side index offset blanks) result =
    ChangesLines context side (Replaces (ChangesRaw (IsFolded offset blanks)) index) result
LineStep context (Unfold side index offset) result =
    ChangesLines context side (Replaces (ChangesRaw (IsUnfolded offset)) index) result
LineStep context (Join side index later) result =
    ChangesLines context side (IsJoined index later) result
LineStep context (Split side index offset) result =
    ChangesLines context side (IsSplit index offset) result
LineStep context (Move side index to) result = ChangesLines context side (IsMoved index to) result
LineStep context (Case side index name) result =
    ChangesLines context side (Replaces (IsRenamed name) index) result
LineStep context (Add side index name text) result =
    ChangesLines context side (IsAdded index (line_of name text)) result
LineStep context (Remove side index) result = ChangesLines context side (IsRemoved index) result

-- the step isn't applicable
abbrev pub HasNoLineStep : MessageContext → LineRewrite → Type 0
HasNoLineStep context step = (after : Message) → ¬ LineStep context step after

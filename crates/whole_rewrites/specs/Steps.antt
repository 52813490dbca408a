-- The message that a rewriting of the whole message gives: a row for each kind. One that has no
-- such message isn't applicable.
use Rattle.std.specs.Prelude.{◌≡◌, ◌↔◌, ℕ, IsTrue, List, length}
use Rattle.msg_head.specs.declared.error.Side.{Side}
use Rattle.msg_head.specs.declared.error.Side.TheVariants.{Header}
use Rattle.msg_head.specs.Lines.{FieldLine}
use Rattle.framing.specs.Framings.{is_request}
use Rattle.msg_body.specs.Messages.{Message, IsMessage}
use Rattle.msg_body.specs.Views.{lines_on, message_content}
use Rattle.component_ids.specs.Types.{kind_in}
use Rattle.component_values.specs.Context.{MessageContext, answers_head}
use Rattle.rewrite_script.specs.declared.rewrite.WholeRewrite.{WholeRewrite}
use Rattle.rewrite_script.specs.declared.rewrite.WholeRewrite.TheVariants.{AddLabel, Rechunk, Chunk, Dechunk, Origin, Absolute, Host, Query, Resf}
use Rattle.line_rewrites.specs.Sized.{SpellsSized}
use Rattle.line_rewrites.specs.Steps.{with_lines_on}
use Rattle.whole_rewrites.specs.Lines.{IsLabelled, IsOtherHost, IsStrict}
use Rattle.whole_rewrites.specs.Content.{IsRechunked, IsChunked, IsDechunked}
use Rattle.whole_rewrites.specs.Targets.{ChangesTarget, IsOriginOf, IsAbsoluteOf, HasOtherQuery}

-- the lines of the side become others so, and all else stays
pub record MakesLines (context : MessageContext) (side : Side)
    (Change : List FieldLine → List FieldLine → Type 0) (made : Message) : Type 0 where
  pub lines : List FieldLine
  pub change : Change (lines_on side context.message) lines
  pub made_is : made ≡ with_lines_on (answers_head context.related) side context.message lines

-- what the rewriting makes of the message; whether that is a message within the limits isn't asked
abbrev pub Makes : MessageContext → WholeRewrite → Message → Type 0
Makes context (AddLabel added tag params) made =
    MakesLines context Header (IsLabelled added tag params) made
Makes context (Rechunk sizes) made = IsRechunked context sizes made
Makes context (Chunk sizes) made = IsChunked context sizes made
Makes context Dechunk made = IsDechunked context made
Makes context Origin made = ChangesTarget context (λ line. IsOriginOf) made
Makes context Absolute made = ChangesTarget context (IsAbsoluteOf context) made
Makes context (Host text) made = IsTrue (is_request context.message.head.start)
    × MakesLines context Header (IsOtherHost text) made
Makes context (Query text) made = ChangesTarget context (HasOtherQuery text) made
Makes context (Resf side name) made =
    MakesLines context side (IsStrict (kind_in context.types name) name) made

-- the rewriting makes the message, within the limits
pub record GivesWhole (context : MessageContext) (step : WholeRewrite) (after : Message)
    : Type 0 where
  pub makes : Makes context step after
  pub message : IsMessage (answers_head context.related) after

-- the rewriting isn't applicable
abbrev pub GivesNoWhole : MessageContext → WholeRewrite → Type 0
GivesNoWhole context step = (after : Message) → ¬ GivesWhole context step after

-- The text tells what the rewriting gives: the message that it is a text of, with as much content
-- as the context's has. Where it is a text of no such message, the rewriting isn't applicable.
abbrev pub SpellsWhole : MessageContext → WholeRewrite → List ℕ → Type 0
SpellsWhole context step text = (after : Message) → GivesWhole context step after
    ↔ SpellsSized (answers_head context.related) text (length (message_content context.message))
    after

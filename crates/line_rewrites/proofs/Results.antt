-- The message that a step gives, by the lines of its side.
use Rattle.std.proofs.Common.{◌≡◌, Bool, Some, sym, subst, ap, ◌∙◌}
use Rattle.msg_head.specs.declared.error.Side.{Side}
use Rattle.msg_head.specs.declared.error.Side.TheVariants.{Header, Trailer}
use Rattle.framing.specs.declared.kind.Framing.{Framing}
use Rattle.framing.specs.declared.kind.Framing.TheVariants.{None as NoContent, Length, Chunked, ToEnd}
use Rattle.framing.specs.Framings.{content_length_of}
use Rattle.msg_body.specs.Bodies.{Body, IsBodyOf, plain, chunked, trailers_in}
use Rattle.msg_body.specs.Messages.{Message, IsMessage}
use Rattle.msg_body.specs.Views.{lines_on}
use Rattle.component_values.specs.Context.{MessageContext}
use Rattle.rewrite_script.specs.declared.rewrite.LineRewrite.{LineRewrite}
use Rattle.rewrite_script.specs.declared.rewrite.LineRewrite.TheVariants.{Pad, Fold, Unfold, Join, Split, Move, Case, Add, Remove}
use Rattle.component_values.specs.Context.{answers_head}
use Rattle.line_rewrites.specs.Laws.{GivesOneByLines}
use Rattle.line_rewrites.specs.Steps.{ChangesLines, LineStep, with_lines_on}
use Rattle.line_rewrites.specs.tools.Computed.{changed, changed_side}
use Rattle.line_rewrites.proofs.Changes.{ChangeOf, change_gives}
use Rattle.line_rewrites.proofs.Sound.{AreSound, lines_sound}

-- the step changes the lines of its side
pub step_changes : (context : MessageContext) (step : LineRewrite) (after : Message) → LineStep context step after → ChangesLines context (changed_side step) (ChangeOf step) after
step_changes context (Pad side index before last) after s = s
step_changes context (Fold side index offset blanks) after s = s
step_changes context (Unfold side index offset) after s = s
step_changes context (Join side index later) after s = s
step_changes context (Split side index offset) after s = s
step_changes context (Move side index to) after s = s
step_changes context (Case side index name) after s = s
step_changes context (Add side index name text) after s = s
step_changes context (Remove side index) after s = s

pub changes_step : (context : MessageContext) (step : LineRewrite) (after : Message) → ChangesLines context (changed_side step) (ChangeOf step) after → LineStep context step after
changes_step context (Pad side index before last) after s = s
changes_step context (Fold side index offset blanks) after s = s
changes_step context (Unfold side index offset) after s = s
changes_step context (Join side index later) after s = s
changes_step context (Split side index offset) after s = s
changes_step context (Move side index to) after s = s
changes_step context (Case side index name) after s = s
changes_step context (Add side index name text) after s = s
changes_step context (Remove side index) after s = s

-- the lines of a message's sides are sound
pub side_sound : (to_head : Bool) (side : Side) (message : Message) → IsMessage to_head message → AreSound (lines_on side message)
side_sound to_head Header message is = lines_sound message.head.lines is.head.lines
side_sound to_head Trailer message is = by message.body message.framing is.body
  where
    by : (body : Body) (framing : Framing) → IsBodyOf framing (content_length_of message.head) body → AreSound (trailers_in body)
    by (plain content) framing of = tt
    by (chunked chunks trailers) Chunked of = lines_sound trailers of.1.each
    by (chunked chunks trailers) NoContent of = absurd of
    by (chunked chunks trailers) Length of = absurd of
    by (chunked chunks trailers) ToEnd of = absurd of

-- the lines that a step gives are the computed ones
pub step_lines : (context : MessageContext) (step : LineRewrite) (after : Message) (s : ChangesLines context (changed_side step) (ChangeOf step) after)
    → changed step (lines_on (changed_side step) context.message) ≡ Some s.lines
step_lines context step after s =
    let sound = subst AreSound s.there (side_sound (answers_head context.related) (changed_side step) after s.message) in
    change_gives step (lines_on (changed_side step) context.message) s.lines s.change sound

pub gives_one_message : GivesOneByLines
gives_one_message context step after other a b =
    let one = step_changes context step after a in
    let two = step_changes context step other b in
    let lines : Some one.lines ≡ Some two.lines = sym (step_lines context step after one) ∙ step_lines context step other two in
    let same : one.lines ≡ two.lines = cc in
    one.after_is ∙ (ap (with_lines_on (answers_head context.related) (changed_side step) context.message) same ∙ sym two.after_is)

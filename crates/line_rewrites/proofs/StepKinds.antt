-- What a step gives is a message of the same kind, and is said of the messages alone.
use Rattle.std.proofs.Common.{◌≡◌, ℕ, Bool, List, refl, ap, ◌∙◌}
use Rattle.msg_head.specs.declared.error.Side.{Side}
use Rattle.msg_head.specs.declared.error.Side.TheVariants.{Header, Trailer}
use Rattle.msg_head.specs.Lines.{FieldLine}
use Rattle.framing.specs.Framings.{is_request}
use Rattle.msg_body.specs.Messages.{Message}
use Rattle.component_ids.specs.declared.params.SigParams.{SigParams}
use Rattle.component_values.specs.Context.{MessageContext, answers_head}
use Rattle.rewrite_script.specs.declared.rewrite.LineRewrite.{LineRewrite}
use Rattle.rewrite_script.specs.declared.rewrite.LineRewrite.TheVariants.{Pad, Fold, Unfold, Join, Split, Move, Case, Add, Remove}
use Rattle.line_rewrites.specs.Laws.{DependsOnMessagesByLines, GivesKindByLines}
use Rattle.line_rewrites.specs.Permitted.{PermitsLines}
use Rattle.line_rewrites.specs.Steps.{ChangesLines, LineStep, with_lines_on}
use Rattle.line_rewrites.specs.tools.Computed.{changed_side}
use Rattle.line_rewrites.proofs.Changes.{ChangeOf}
use Rattle.line_rewrites.proofs.Results.{changes_step, step_changes}

-- ---- the kind

start_kept : (to_head : Bool) (side : Side) (message : Message) (lines : List FieldLine) → (with_lines_on to_head side message lines).head.start ≡ message.head.start
start_kept to_head Header message lines = refl
start_kept to_head Trailer message lines = refl

pub gives_kind : GivesKindByLines
gives_kind context step after gives =
    let is = step_changes context step after gives in (
      is.message,
      ap (λ (m : Message). is_request m.head.start) is.after_is ∙ ap is_request (start_kept (answers_head context.related) (changed_side step) context.message is.lines),
    )

-- ---- another context

lines_under : (context other : MessageContext) (side : Side) (Change : List FieldLine → List FieldLine → Type 0) (after : Message) → other.message ≡ context.message
    → other.related ≡ context.related → ChangesLines context side Change after → ChangesLines other side Change after
lines_under context other side Change after message related is = record {
  lines = is.lines;
  change = rw message is.change;
  after_is = rw (message, related) is.after_is;
  there = is.there;
  message = rw related is.message;
}

gives_under : (context other : MessageContext) (step : LineRewrite) (after : Message) → other.message ≡ context.message → other.related ≡ context.related → LineStep context step after
    → LineStep other step after
gives_under context other step after message related gives =
    changes_step other step after (lines_under context other (changed_side step) (ChangeOf step) after message related (step_changes context step after gives))

permits_under : (context other : MessageContext) (step : LineRewrite) (label : List ℕ) (params : SigParams) → other.message ≡ context.message → PermitsLines context step label params
    → PermitsLines other step label params
permits_under context other (Pad side index before behind) label params message is = is
permits_under context other (Fold side index at blanks) label params message is = rw message is
permits_under context other (Unfold side index at) label params message is = is
permits_under context other (Join side index later) label params message is = rw message is
permits_under context other (Split side index at) label params message is = rw message is
permits_under context other (Move side index to) label params message is = rw message is
permits_under context other (Case side index name) label params message is = is
permits_under context other (Add side index name text) label params message is = is
permits_under context other (Remove side index) label params message is = rw message is

pub depends_on_messages : DependsOnMessagesByLines
depends_on_messages = record { gives = gives_under; permits = permits_under }

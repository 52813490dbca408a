-- What a step gives is a message of the same kind, and rests on the messages; of some kinds on what is configured.
use Rattle.std.proofs.Common.{ℕ, List}
use Rattle.msg_body.specs.Messages.{Message}
use Rattle.component_ids.specs.declared.params.SigParams.{SigParams}
use Rattle.component_values.specs.Context.{MessageContext}
use Rattle.rewrite_script.specs.declared.rewrite.Rewrite.{Rewrite}
use Rattle.rewrite_script.specs.declared.rewrite.Rewrite.TheVariants.{Lines, Whole}
use Rattle.line_rewrites.proofs.StepKinds.{depends_on_messages as lines_depend, gives_kind as lines_kind}
use Rattle.whole_rewrites.specs.Laws.{IsOfMessages}
use Rattle.whole_rewrites.proofs.WholeLaws.{given_by_messages as whole_given, gives_kind as whole_kind}
use Rattle.whole_rewrites.proofs.WholePermits.{permitted_by_messages}
use Rattle.rewrites.specs.Laws.{AgreeFor, DependsOnMessages, GivesKind}
use Rattle.rewrites.specs.Permitted.{Permits}
use Rattle.rewrites.specs.Steps.{Step}

pub gives_kind : GivesKind
gives_kind context (Lines step) after gives = lines_kind context step after gives
gives_kind context (Whole step) after gives = whole_kind context step after gives

-- ---- other contexts

gives_under : (context other : MessageContext) (step : Rewrite) (after : Message) → IsOfMessages context other → AgreeFor step context other → Step context step after → Step other step after
gives_under context other (Lines step) after same agree gives = lines_depend.gives context other step after same.0 same.1 gives
gives_under context other (Whole step) after same agree gives = whole_given context other step after same agree gives

permits_under : (context other : MessageContext) (step : Rewrite) (label : List ℕ) (params : SigParams) → IsOfMessages context other → AgreeFor step context other → Permits context step label params
    → Permits other step label params
permits_under context other (Lines step) label params same agree permits = lines_depend.permits context other step label params same.0 permits
permits_under context other (Whole step) label params same agree permits = permitted_by_messages context other step params same agree permits

pub depends_on_messages : DependsOnMessages
depends_on_messages = record { gives = gives_under; permits = permits_under }

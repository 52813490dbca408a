-- Walks: the steps of a list, each taken on the message that the one before it gave. On the way a
-- watcher is handed each message that a step meets, and the step, and judges it.
use Rattle.std.specs.Prelude.{◌≡◌, ◌≢◌, ⊤, ℕ, Some, Result, Ok, Err, List, take, slice_get}
use Rattle.std.specs.List.{FoldsTo}
use Rattle.msg_body.specs.Messages.{Message, Spells}
use Rattle.component_values.specs.Context.{MessageContext, answers_head, context_with}
use Rattle.rewrite_script.specs.declared.rewrite.Rewrite.{Rewrite}
use Rattle.rewrites.specs.Steps.{IsNotApplicable, Step}
use Rattle.rewrites.specs.declared.watcher.Judgement.{Judgement}
use Rattle.rewrites.specs.declared.watcher.Judgement.TheVariants.{Permitted, Forbidden, Unjudged}
use Rattle.rewrites.specs.declared.fault.WalkFault.{WalkFault}
use Rattle.rewrites.specs.declared.fault.WalkFault.TheVariants as fault

-- ---- steps that are watched

-- the watcher permits the step on the context's message, which makes it this one, and the step
-- gives the message
pub record IsWatchedStep {W : Type 0}
    (Judges : MessageContext → Rewrite → W → W → Judgement → Type 0) (context : MessageContext)
    (was : W) (step : Rewrite) (after : Message) (now : W) : Type 0 where
  pub judged : Judges context step was now Permitted
  pub gives : Step context step after

-- The steps lead from the context's message to this one. The watcher, which was this one, met each
-- message on the way with the step that was taken on it, in order, and permitted it; so it became
-- this one.
abbrev pub Walks : {W : Type 0} → (MessageContext → Rewrite → W → W → Judgement → Type 0)
    → MessageContext → W → List Rewrite → Message → W → Type 0
Walks {W} Judges context was steps after now =
    FoldsTo {P = Message × W} (λ at step next.
    IsWatchedStep Judges (context_with context at.0) at.1 step next.0 next.1)
    (context.message, was) steps (after, now)

-- The steps before the one of this index lead to a message. The watcher judged the step on it,
-- which made it this one, and this is so.
pub record EndsAt {W : Type 0}
    (Judges : MessageContext → Rewrite → W → W → Judgement → Type 0) (context : MessageContext)
    (was : W) (steps : List Rewrite) (index : ℕ) (now : W)
    (Why : MessageContext → Rewrite → Judgement → Type 0) : Type 0 where
  pub message : Message
  pub watcher : W
  pub lead : Walks Judges context was (take index steps) message watcher
  pub step : Rewrite
  pub there : slice_get steps index ≡ Some step
  pub judgement : Judgement
  pub judged : Judges (context_with context message) step watcher now judgement
  pub why : Why (context_with context message) step judgement

-- the step is judged, but isn't applicable
abbrev pub IsInapplicableStep : MessageContext → Rewrite → Judgement → Type 0
IsInapplicableStep context step judgement = (judgement ≢ Unjudged) × IsNotApplicable context step

-- the step gives a message, but is forbidden
abbrev pub IsForbiddenStep : MessageContext → Rewrite → Judgement → Type 0
IsForbiddenStep context step judgement =
    (judgement ≡ Forbidden) × ((after : Message) × Step context step after)

-- what comes of a walk: the text of the message to which the steps lead; or the step at which it
-- ends, and why: it isn't judged, it isn't applicable, or it is forbidden
abbrev pub ReportsWalk : {W : Type 0} → (MessageContext → Rewrite → W → W → Judgement → Type 0)
    → MessageContext → W → List Rewrite → W → Result (List ℕ) WalkFault → Type 0
ReportsWalk Judges context was steps now (Ok text) = (after : Message)
    × Walks Judges context was steps after now
    × Spells (answers_head context.related) after text
ReportsWalk Judges context was steps now (Err (fault.Unjudged index)) =
    EndsAt Judges context was steps index now (λ _ _ judgement. judgement ≡ Unjudged)
ReportsWalk Judges context was steps now (Err (fault.NotApplicable index)) =
    EndsAt Judges context was steps index now IsInapplicableStep
ReportsWalk Judges context was steps now (Err (fault.NotPermitted index)) =
    EndsAt Judges context was steps index now IsForbiddenStep
ReportsWalk Judges context was steps now (Err fault.Memory) = ⊤

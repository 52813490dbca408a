-- What `rewrite` comes to: the message of a context after the steps of a script.
use Rattle.std.specs.Prelude.{◌≡◌, ◌+◌, ℕ, Option, Some, None, List, [], ◌∷◌, IfSome, IsSomeAnd}
use Rattle.msg_body.specs.Messages.{Message, message_text}
use Rattle.component_ids.specs.declared.params.SigParams.{SigParams}
use Rattle.component_values.specs.Context.{MessageContext, context_with}
use Rattle.signatures.specs.Signatures.{HasSignature}
use Rattle.rewrite_script.specs.declared.rewrite.Rewrite.{Rewrite}
use Rattle.rewrites.specs.Laws.{IsPermittedStep}
use Rattle.rewrites.specs.Permitted.{Permits}
use Rattle.rewrites.specs.Steps.{Step, IsNotApplicable}
use Rattle.commands.specs.Layers.{ReadsThen}
use Rattle.refusals.specs.declared.refusal.Refusal.TheVariants.{Command}
use Rattle.refusals.specs.declared.refusal.CommandRefusal.TheVariants.{NotTaken}
use Rattle.refusals.specs.declared.refusal.StepRefusal.{StepRefusal}
use Rattle.refusals.specs.declared.refusal.StepRefusal.TheVariants.{LabelUnread, NotApplicable, NotPermitted}
use Rattle.commands.specs.declared.outcome.Outcome.{Outcome}
use Rattle.commands.specs.declared.outcome.Outcome.TheVariants.{Done}

-- the label has a signature in the message
abbrev pub IsRead : Message → List ℕ → Type 0
IsRead message label = (params : SigParams) × (tag : List ℕ) × HasSignature message label params tag

-- the step gives the message, and where a label is given, its signature permits the step
abbrev pub IsTaken : Option (List ℕ) → MessageContext → Rewrite → Message → Type 0
IsTaken None context step after = Step context step after
IsTaken (Some label) context step after = IsPermittedStep label context step after

-- the step gives a message, but the label's signature doesn't permit it
pub record IsForbidden (label : List ℕ) (context : MessageContext) (step : Rewrite) : Type 0 where
  pub params : SigParams
  pub tag : List ℕ
  pub signature : HasSignature context.message label params tag
  pub after : Message
  pub gives : Step context step after
  pub forbids : ¬ Permits context step label params

-- why the step of this index isn't taken: the given label has no signature in the message that the
-- step meets; it gives no message; or the signature doesn't permit it
abbrev pub IsStepRefused : Option (List ℕ) → ℕ → MessageContext → Rewrite → StepRefusal → Type 0
IsStepRefused label index context step LabelUnread =
    IsSomeAnd label (λ given. ¬ IsRead context.message given)
IsStepRefused label index context step (NotApplicable place) =
    (place ≡ index) × IfSome label (IsRead context.message) × IsNotApplicable context step
IsStepRefused label index context step (NotPermitted place) =
    (place ≡ index) × IsSomeAnd label (λ given. IsForbidden given context step)

-- the message after these steps, the first of which has this index, each taken on the message that
-- the one before it gave
abbrev pub ReportsSteps : Option (List ℕ) → ℕ → MessageContext → List Rewrite → Outcome → Type 0
ReportsSteps label index context [] outcome = outcome ≡ Done (message_text context.message)
ReportsSteps label index context (step ∷ steps) outcome =
    ReadsThen (IsTaken label context step) (IsStepRefused label index context step)
    (λ cause. Command (NotTaken cause)) (λ after.
    ReportsSteps label (index + 1) (context_with context after) steps) outcome

-- the message after the steps of the script
abbrev pub ReportsRewriting : Option (List ℕ) → List Rewrite → MessageContext → Outcome → Type 0
ReportsRewriting label script context = ReportsSteps label 0 context script

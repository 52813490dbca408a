-- A script and a context have one outcome.
use Rattle.std.proofs.Common.{◌≡◌, ◌+◌, ℕ, List, [], ◌∷◌, Option, Some, None, inl, inr, refl, sym, ap, subst, ◌∙◌}
use Rattle.std.specs.Prelude.{IsTrue}
use Rattle.std.specs.List.{list_all}
use Rattle.std.proofs.lemmas.Bool.{and_parts}
use Rattle.msg_body.specs.Messages.{Message, IsMessage, message_text}
use Rattle.component_ids.specs.declared.params.SigParams.{SigParams}
use Rattle.component_values.specs.Context.{MessageContext, answers_head, context_with}
use Rattle.rewrite_script.specs.Lines.{is_writable}
use Rattle.rewrite_script.specs.declared.rewrite.Rewrite.{Rewrite}
use Rattle.rewrites.specs.Laws.{GivesOneMessage}
use Rattle.rewrites.specs.Decisions.{HasMessageOrNone, PermitsOrNot}
use Rattle.rewrites.specs.Permitted.{Permits}
use Rattle.signatures.proofs.Reading.{has_one_signature, has_signature_or_not, has_no_failure_where_read}
use Rattle.commands.specs.Laws.{HasOneRewritten, HasSomeRewritten}
use Rattle.intake.specs.Layers.{HasAnswer}
use Rattle.commands.specs.Rewrite.{IsRead, IsTaken, IsStepRefused, ReportsSteps}
use Rattle.commands.specs.declared.outcome.Outcome.{Outcome}
use Rattle.commands.specs.declared.outcome.Outcome.TheVariants.{Done, Refused}
use Rattle.refusals.specs.declared.refusal.Refusal.TheVariants.{Command}
use Rattle.refusals.specs.declared.refusal.CommandRefusal.TheVariants.{NotTaken}
use Rattle.refusals.specs.declared.refusal.StepRefusal.{StepRefusal}
use Rattle.refusals.specs.declared.refusal.StepRefusal.TheVariants.{LabelUnread, NotApplicable, NotPermitted}
use Rattle.commands.proofs.Rewriting.{step_message}

-- ---- at most one

module _ (gives_one : GivesOneMessage) where
  one_taken : (label : Option (List ℕ)) (context : MessageContext) (step : Rewrite) (a b : Message) → IsTaken label context step a → IsTaken label context step b → a ≡ b
  one_taken None context step a b is also = gives_one context step a b is also
  one_taken (Some label) context step a b is also = gives_one context step a b is.gives also.gives

  one_cause : (label : Option (List ℕ)) (index : ℕ) (context : MessageContext) (step : Rewrite) (c d : StepRefusal) → IsStepRefused label index context step c
      → IsStepRefused label index context step d → c ≡ d
  one_cause None index context step LabelUnread d a b = absurd a
  one_cause None index context step (NotPermitted i) d a b = absurd a.1
  one_cause None index context step (NotApplicable i) LabelUnread a b = absurd b
  one_cause None index context step (NotApplicable i) (NotApplicable j) a b = ap (λ (n : ℕ). NotApplicable n) (a.0 ∙ sym b.0)
  one_cause None index context step (NotApplicable i) (NotPermitted j) a b = absurd b.1
  one_cause (Some label) index context step LabelUnread LabelUnread a b = refl
  one_cause (Some label) index context step LabelUnread (NotApplicable j) a b = absurd (a b.1)
  one_cause (Some label) index context step LabelUnread (NotPermitted j) a b = absurd (a (b.1.params, b.1.tag, b.1.signature))
  one_cause (Some label) index context step (NotApplicable i) LabelUnread a b = absurd (b a.1)
  one_cause (Some label) index context step (NotApplicable i) (NotApplicable j) a b = ap (λ (n : ℕ). NotApplicable n) (a.0 ∙ sym b.0)
  one_cause (Some label) index context step (NotApplicable i) (NotPermitted j) a b = absurd (a.2 b.1.after b.1.gives)
  one_cause (Some label) index context step (NotPermitted i) LabelUnread a b = absurd (b (a.1.params, a.1.tag, a.1.signature))
  one_cause (Some label) index context step (NotPermitted i) (NotApplicable j) a b = absurd (b.2 a.1.after a.1.gives)
  one_cause (Some label) index context step (NotPermitted i) (NotPermitted j) a b = ap (λ (n : ℕ). NotPermitted n) (a.0 ∙ sym b.0)

  not_both : (label : Option (List ℕ)) (index : ℕ) (context : MessageContext) (step : Rewrite) (after : Message) (c : StepRefusal) → IsTaken label context step after
      → IsStepRefused label index context step c → ⊥
  not_both None index context step after LabelUnread is cause = cause
  not_both None index context step after (NotApplicable i) is cause = cause.2 after is
  not_both None index context step after (NotPermitted i) is cause = cause.1
  not_both (Some label) index context step after LabelUnread is cause = cause (is.params, is.tag, is.signature)
  not_both (Some label) index context step after (NotApplicable i) is cause = cause.2 after is.gives
  not_both (Some label) index context step after (NotPermitted i) is cause =
      let same = has_one_signature context.message label is.params cause.1.params is.tag cause.1.tag is.signature cause.1.signature in
      cause.1.forbids (subst (λ (params : SigParams). Permits context step label params) same.0 is.permits)

  one_of_steps : (steps : List Rewrite) (label : Option (List ℕ)) (index : ℕ) (context : MessageContext) (one other : Outcome) → ReportsSteps label index context steps one
      → ReportsSteps label index context steps other → one ≡ other
  one_of_steps [] label index context one other a b = a ∙ sym b
  one_of_steps (step ∷ steps) label index context one other (inl a) (inl b) =
      let same = one_taken label context step a.0 b.0 a.1 b.1 in
      one_of_steps steps label (index + 1) (context_with context b.0) one other
      (subst (λ (m : Message). ReportsSteps label (index + 1) (context_with context m) steps one) same a.2) b.2
  one_of_steps (step ∷ steps) label index context one other (inl a) (inr b) = absurd (not_both label index context step a.0 b.0 a.1 b.1)
  one_of_steps (step ∷ steps) label index context one other (inr a) (inl b) = absurd (not_both label index context step b.0 a.0 b.1 a.1)
  one_of_steps (step ∷ steps) label index context one other (inr a) (inr b) =
      a.2 ∙ (ap (λ (c : StepRefusal). Refused (Command (NotTaken c))) (one_cause label index context step a.0 b.0 a.1 b.1) ∙ sym b.2)

  pub one_rewritten : HasOneRewritten
  one_rewritten label script context one other a b = one_of_steps script label 0 context one other a b

-- ---- some

module _ (has_or_not : HasMessageOrNone) (permits_or_not : PermitsOrNot) where
  signed_answer : (label : List ℕ) (index : ℕ) (context : MessageContext) (step : Rewrite) (after : Message) (params : SigParams) (tag : List ℕ)
      → IsTaken None context step after → (read : IsRead context.message label)
      → HasAnswer (IsTaken (Some label) context step) (IsStepRefused (Some label) index context step)
  signed_answer label index context step after params tag gives read = elim (permits_or_not context step label read.0) [
    | inl permits ↦ inl (after, record { gives = gives; params = read.0; tag = read.1; signature = read.2; permits = permits })
    | inr forbids ↦ inr (NotPermitted index, (refl, record { params = read.0; tag = read.1; signature = read.2; after = after; gives = gives; forbids = forbids }))
  ]

  step_answer : (label : Option (List ℕ)) (index : ℕ) (context : MessageContext) (step : Rewrite) → IsTrue (is_writable step) → IsMessage (answers_head context.related) context.message
      → HasAnswer (IsTaken label context step) (IsStepRefused label index context step)
  step_answer None index context step writable message = elim (has_or_not context step writable message) [
    | inl gives ↦ inl (gives.0, gives.1)
    | inr none ↦ inr (NotApplicable index, (refl, tt, none))
  ]
  step_answer (Some label) index context step writable message = elim (has_signature_or_not context.message label) [
    | inr unread ↦ inr (LabelUnread, λ read. has_no_failure_where_read context.message label read.0 read.1 unread.0 unread.1 read.2 unread.2.holds)
    | inl read ↦ elim (has_or_not context step writable message) [
      | inl gives ↦ signed_answer label index context step gives.0 read.0 read.1 gives.1 read
      | inr none ↦ inr (NotApplicable index, (refl, read, none))
    ]
  ]

  taken_message : (label : Option (List ℕ)) (context : MessageContext) (step : Rewrite) (after : Message) → IsTaken label context step after → IsMessage (answers_head context.related) after
  taken_message None context step after is = step_message context step after is
  taken_message (Some label) context step after is = step_message context step after is.gives

  some_of_steps : (steps : List Rewrite) (label : Option (List ℕ)) (index : ℕ) (context : MessageContext) → IsTrue (list_all is_writable steps)
      → IsMessage (answers_head context.related) context.message → (outcome : Outcome) × ReportsSteps label index context steps outcome
  some_of_steps [] label index context writable message = (Done (message_text context.message), refl)
  some_of_steps (step ∷ steps) label index context writable message =
      let parts = and_parts (is_writable step) (list_all is_writable steps) writable in
      elim (step_answer label index context step parts.0 message) [
        | inl taken ↦
            let rest = some_of_steps steps label (index + 1) (context_with context taken.0) parts.1 (taken_message label context step taken.0 taken.1) in
            (rest.0, inl (taken.0, taken.1, rest.1))
        | inr cause ↦ (Refused (Command (NotTaken cause.0)), inr (cause.0, cause.1, refl))
      ]

  pub has_some_rewritten : HasSomeRewritten
  has_some_rewritten label script context writable message = some_of_steps script label 0 context writable message

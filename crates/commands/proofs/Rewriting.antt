-- What comes of a walk whose steps are judged by the signature of a label.
use Rattle.std.proofs.Common.{◌≡◌, ◌+◌, ℕ, List, [], ◌∷◌, ◌++◌, length, take, drop, Option, Some, None, Ok, Err, refl, sym, ap, subst, ◌∙◌, inl, inr, arith, length-take}
use Rattle.std.specs.Prelude.{IfSome, slice_get}
use Rattle.std.specs.List.{FoldsTo}
use Rattle.std.proofs.lemmas.Option.{get_or_from_slice_get, slice_get_within}
use Rattle.std.proofs.lemmas.List.{append-nil, drop_more, take-append-drop}
use Rattle.byte_grammar.specs.Causes.{AnswersWhere}
use Rattle.msg_body.specs.Messages.{Message, IsMessage}
use Rattle.component_values.specs.Context.{MessageContext, answers_head, context_with}
use Rattle.rewrite_script.specs.declared.rewrite.Rewrite.{Rewrite}
use Rattle.rewrites.specs.Permitted.{Permits}
use Rattle.rewrites.specs.Steps.{Step}
use Rattle.rewrites.specs.Walks.{EndsAt, IsForbiddenStep, IsInapplicableStep, IsWatchedStep, ReportsWalk}
use Rattle.rewrites.specs.declared.watcher.Judgement.{Judgement}
use Rattle.rewrites.specs.declared.watcher.Judgement.TheVariants.{Permitted, Forbidden, Unjudged}
use Rattle.rewrites.specs.declared.fault.WalkFault.{WalkFault}
use Rattle.rewrites.specs.declared.fault.WalkFault.TheVariants as fault
use Rattle.rewrites.proofs.StepKinds.{gives_kind}
use Rattle.signatures.specs.Rules.{IsLabelUnread}
use Rattle.signatures.specs.declared.label.LabelFault.TheVariants as label_fault
use Rattle.signatures.specs.declared.place.Place.{Place}
use Rattle.signatures.specs.declared.rule.Rule.{Rule}
use Rattle.signatures.proofs.Reading.{has_no_failure_where_read}
use Rattle.commands.specs.Rewrite.{IsRead, IsTaken, IsStepRefused, ReportsSteps}
use Rattle.intake.specs.Stops.{stop_of_walk}
use Rattle.commands.specs.Outcome.{IfOutcome, ReadsNothing}
use Rattle.commands.specs.declared.outcome.Outcome.{Outcome}
use Rattle.commands.specs.declared.outcome.Outcome.TheVariants.{Done, Refused}
use Rattle.commands.specs.tools.Rewritten.{HasRead, IsJudged}
use Rattle.refusals.specs.declared.refusal.Refusal.TheVariants.{Command}
use Rattle.refusals.specs.declared.refusal.CommandRefusal.TheVariants.{NotTaken}
use Rattle.refusals.specs.declared.refusal.StepRefusal.{StepRefusal}
use Rattle.refusals.specs.declared.refusal.StepRefusal.TheVariants.{LabelUnread, NotApplicable, NotPermitted}

-- ---- the message that a step gives

pub step_message : (context : MessageContext) (step : Rewrite) (after : Message) → Step context step after → IsMessage (answers_head context.related) after
step_message context step after is = (gives_kind context step after is).0

-- ---- the label

-- a label that a rule fails for has no signature
pub not_read : {T : Type 0} (message : Message) (label : List ℕ) (rule : Rule) (place : Place)
    → ((r : Rule) (p : Place) → AnswersWhere {T = T} label_fault.Memory (Err (label_fault.Rule rule place)) (label_fault.Rule r p) (IsLabelUnread message label r p))
    → ¬ IsRead message label
not_read message label rule place answered read =
    let first = (answered rule place).only refl in
    has_no_failure_where_read message label read.0 read.1 rule place read.2 first.holds

-- ---- walks

-- the step at an index is the next one
next_is : (steps : List Rewrite) (index : ℕ) (step : Rewrite) → slice_get steps index ≡ Some step → drop index steps ≡ step ∷ drop (index + 1) steps
next_is steps index step there =
    drop_more steps index step (slice_get_within steps index step there)
    ∙ ap (λ (s : Rewrite). s ∷ drop (index + 1) steps) (get_or_from_slice_get steps index step step there)

-- a step that is judged is read, where a label is given
read_where_judged : (label : Option (List ℕ)) (context : MessageContext) (step : Rewrite) (judgement : Judgement) → IsJudged label context step judgement → ¬ (judgement ≡ Unjudged)
    → IfSome label (IsRead context.message)
read_where_judged None context step judgement is judged = tt
read_where_judged (Some label) context step Permitted is judged = (is.params, is.tag, is.signature)
read_where_judged (Some label) context step Forbidden is judged = (is.params, is.tag, is.signature)
read_where_judged (Some label) context step Unjudged is judged = absurd (judged refl)

-- one that isn't is refused for its label
refused_unjudged : (label : Option (List ℕ)) (index : ℕ) (context : MessageContext) (step : Rewrite) (judgement : Judgement) → IsJudged label context step judgement → judgement ≡ Unjudged
    → IsStepRefused label index context step LabelUnread
refused_unjudged None index context step judgement is e = let one : Permitted ≡ Unjudged = sym is ∙ e in absurd (cc (one))
refused_unjudged (Some label) index context step judgement is e = rw e at is

refused_forbidden : (label : Option (List ℕ)) (index : ℕ) (context : MessageContext) (step : Rewrite) (judgement : Judgement) → IsJudged label context step judgement → judgement ≡ Forbidden
    → (after : Message) → Step context step after → IsStepRefused label index context step (NotPermitted index)
refused_forbidden None index context step judgement is e after gives = let one : Permitted ≡ Forbidden = sym is ∙ e in absurd (cc (one))
refused_forbidden (Some label) index context step judgement is e after gives =
    let read : HasRead context label (λ params. ¬ Permits context step label params) = rw e at is in
    (refl, record { params = read.params; tag = read.tag; signature = read.signature; after = after; gives = gives; forbids = read.holds })

module _ {W : Type 0} (Judges : MessageContext → Rewrite → W → W → Judgement → Type 0) (own : W) (label : Option (List ℕ))
    (says : (context : MessageContext) (step : Rewrite) (was now : W) (judgement : Judgement) → was ≡ own → Judges context step was now judgement → (now ≡ own) × IsJudged label context step judgement)
    (context : MessageContext) where
  taken : (other : Option (List ℕ)) (now : MessageContext) (step : Rewrite) (after : Message) → IsJudged other now step Permitted → Step now step after → IsTaken other now step after
  taken None now step after is gives = gives
  taken (Some given) now step after is gives = record { gives = gives; params = is.params; tag = is.tag; signature = is.signature; permits = is.holds }

  abbrev Goes : Message × W → List Rewrite → Message × W → Type 0
  Goes at steps next = FoldsTo {P = Message × W} (λ a step b. IsWatchedStep Judges (context_with context a.0) a.1 step b.0 b.1) at steps next

  -- the watcher stays
  stays : (done : List Rewrite) (message : Message) (was : W) (after : Message) (now : W) → was ≡ own → Goes (message, was) done (after, now) → now ≡ own
  stays [] message was after now is same = sym (ap (λ (at : Message × W). at.1) same) ∙ is
  stays (step ∷ done) message was after now is goes =
      let one = says (context_with context message) step was goes.0.1 Permitted is goes.1.judged in
      stays done goes.0.0 goes.0.1 after now one.0 goes.2

  -- what comes of the message after some steps with the others comes of all
  goes_on : (done rest : List Rewrite) (index : ℕ) (message : Message) (was : W) (after : Message) (now : W) (outcome : Outcome) → was ≡ own → Goes (message, was) done (after, now)
      → ReportsSteps label (index + length done) (context_with context after) rest outcome → ReportsSteps label index (context_with context message) (done ++ rest) outcome
  goes_on [] rest index message was after now outcome is same reports =
      let first = ap (λ (at : Message × W). at.0) same in
      let count : index + 0 ≡ index = omega arith in
      subst (λ (m : Message). ReportsSteps label index (context_with context m) rest outcome) (sym first) (subst (λ (n : ℕ). ReportsSteps label n (context_with context after) rest outcome) count reports)
  goes_on (step ∷ done) rest index message was after now outcome is goes reports =
      let one = says (context_with context message) step was goes.0.1 Permitted is goes.1.judged in
      let count : index + length (step ∷ done) ≡ (index + 1) + length done = omega arith in
      inl (
        goes.0.0,
        taken label (context_with context message) step goes.0.0 one.1 goes.1.gives,
        goes_on done rest (index + 1) goes.0.0 goes.0.1 after now outcome one.0 goes.2
            (subst (λ (n : ℕ). ReportsSteps label n (context_with context after) rest outcome) count reports),
      )

  module _ (steps : List Rewrite) (now : W) where
    -- the walk ends at a step that is refused
    ends : (index : ℕ) (Why : MessageContext → Rewrite → Judgement → Type 0) (cause : StepRefusal)
        → ((c : MessageContext) (step : Rewrite) (judgement : Judgement) → IsJudged label c step judgement → Why c step judgement → IsStepRefused label index c step cause)
        → EndsAt Judges context own steps index now Why → ReportsSteps label 0 context steps (Refused (Command (NotTaken cause)))
    ends index Why cause refuses at =
        let here = stays (take index steps) context.message own at.message at.watcher refl at.lead in
        let one = says (context_with context at.message) at.step at.watcher now at.judgement here at.judged in
        let outcome = Refused (Command (NotTaken cause)) in
        let within = slice_get_within steps index at.step at.there in
        let count : 0 + length (take index steps) ≡ index = omega (arith, length-take index steps) in
        let last : ReportsSteps label index (context_with context at.message) (at.step ∷ drop (index + 1) steps) outcome =
        inr (cause, refuses (context_with context at.message) at.step at.judgement one.1 at.why, refl) in
        let all = goes_on (take index steps) (at.step ∷ drop (index + 1) steps) 0 context.message own at.message at.watcher outcome refl at.lead
        (subst (λ (n : ℕ). ReportsSteps label n (context_with context at.message) (at.step ∷ drop (index + 1) steps) outcome) (sym count) last) in
        subst (λ (ss : List Rewrite). ReportsSteps label 0 context ss outcome) (ap (λ (r : List Rewrite). take index steps ++ r) (sym (next_is steps index at.step at.there)) ∙ take-append-drop index steps) all

    pub all_taken : (text : List ℕ) → ReportsWalk Judges context own steps now (Ok text) → ReportsSteps label 0 context steps (Done text)
    all_taken text walked =
        let all = goes_on steps [] 0 context.message own walked.0 now (Done text) refl walked.1 (ap (λ (t : List ℕ). Done t) walked.2.text) in
        subst (λ (ss : List Rewrite). ReportsSteps label 0 context ss (Done text)) (append-nil steps) all

    pub not_all_taken : (why : WalkFault) → ReportsWalk Judges context own steps now (Err why) → IfOutcome (Err (stop_of_walk why)) (ReportsSteps label 0 context steps)
    not_all_taken fault.Memory walked = tt
    not_all_taken (fault.Unjudged index) walked =
        ends index (λ _ _ judgement. judgement ≡ Unjudged) LabelUnread (λ c step judgement is e. refused_unjudged label index c step judgement is e) walked
    not_all_taken (fault.NotApplicable index) walked =
        ends index IsInapplicableStep (NotApplicable index) (λ c step judgement is why. (refl, read_where_judged label c step judgement is why.0, why.1)) walked
    not_all_taken (fault.NotPermitted index) walked =
        ends index IsForbiddenStep (NotPermitted index) (λ c step judgement is why. refused_forbidden label index c step judgement is why.0 why.1.0 why.1.1) walked

pub quiet : (why : WalkFault) → ReadsNothing (Err (stop_of_walk why))
quiet fault.Memory = tt
quiet (fault.Unjudged index) = tt
quiet (fault.NotApplicable index) = tt
quiet (fault.NotPermitted index) = tt

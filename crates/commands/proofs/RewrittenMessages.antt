-- What is rewritten is a message, and under a label it keeps the label's verdict.
use Rattle.std.proofs.Common.{◌≡◌, ◌+◌, ℕ, Option, Some, None, List, [], ◌∷◌, inl, inr, refl, subst, ◌∙◌}
use Rattle.std.specs.Prelude.{IsTrue}
use Rattle.std.specs.List.{list_all, list_any, FoldsTo}
use Rattle.std.proofs.lemmas.Bool.{or_left, or_right}
use Rattle.msg_body.specs.Messages.{Message, IsMessage, message_text}
use Rattle.component_values.specs.Context.{MessageContext, answers_head, context_with}
use Rattle.conf.specs.Configuration.{Configuration}
use Rattle.rewrite_script.specs.Lines.{is_writable}
use Rattle.rewrite_script.specs.Scripts.{HaveValues}
use Rattle.rewrite_script.specs.declared.rewrite.Rewrite.{Rewrite}
use Rattle.whole_rewrites.specs.Laws.{IsReadAs}
use Rattle.rewrites.specs.Laws.{AgreeFor, DependsOnMessages, GivesKind, HasSameVerdict, IsPermittedStep, KeepsOverSteps, rests_on_conf}
use Rattle.rewrites.specs.Steps.{Step, Steps}
use Rattle.verdicts.specs.Contexts.{context_for}
use Rattle.commands.specs.Rewrite.{IsTaken, ReportsSteps}
use Rattle.commands.specs.RewrittenMessages.{IsMessageWhereRewritten, IsTextAfter, HasVerdictWhereRewritten}
use Rattle.commands.specs.declared.outcome.Outcome.TheVariants.{Done}
use Rattle.commands.proofs.LowerLaws.{one_text}

-- ---- the message that is written in the end

gives_of : (label : Option (List ℕ)) (context : MessageContext) (step : Rewrite) (after : Message) → IsTaken label context step after → Step context step after
gives_of None context step after is = is
gives_of (Some label) context step after is = is.gives

text_of_done : (text written : List ℕ) → Done written ≡ Done text → written ≡ text
text_of_done text written same = cc

module _ (gives_kind : GivesKind) where
  end_is : (script : List Rewrite) (label : Option (List ℕ)) (index : ℕ) (context : MessageContext) (written : List ℕ) → IsMessage (answers_head context.related) context.message
      → ReportsSteps label index context script (Done written) → IsTextAfter label context script written
  end_is [] label index context written message done = record {
    after = context.message;
    steps = refl;
    spells = record { is = message; text = text_of_done (message_text context.message) written done };
    kind = refl;
  }
  end_is (step ∷ script) label index context written message (inr cause) = absurd (cc cause.2)
  end_is (step ∷ script) label index context written message (inl taken) =
      let is = gives_kind context step taken.0 (gives_of label context step taken.0 taken.1) in
      let rest = end_is script label (index + 1) (context_with context taken.0) written is.0 taken.2 in
      record {
        after = rest.after;
        steps = (taken.0, taken.1, rest.steps);
        spells = rest.spells;
        kind = rest.kind ∙ is.1;
      }

  pub message_where_rewritten : IsMessageWhereRewritten
  message_where_rewritten label script context bytes written spells reports = end_is script label 0 context written spells.is reports

-- ---- the same steps under another configuration

module _ (conf : Configuration) (depends : DependsOnMessages) where
  under : MessageContext → MessageContext
  under context = context_for conf context.message context.related

  permitted_under : (label : List ℕ) (context : MessageContext) (step : Rewrite) (after : Message) → AgreeFor step context (under context) → IsPermittedStep label context step after
      → IsPermittedStep label (under context) step after
  unfolding under
  permitted_under label context step after agree is = record {
    gives = depends.gives context (under context) step after (refl, refl) agree is.gives;
    params = is.params;
    tag = is.tag;
    signature = is.signature;
    permits = depends.permits context (under context) step label is.params (refl, refl) agree is.permits;
  }

  steps_under : (steps : List Rewrite) (label : List ℕ) (context : MessageContext) (message after : Message) → (IsTrue (list_any rests_on_conf steps) → IsReadAs context (under context))
      → FoldsTo (λ m step next. IsPermittedStep label (context_with context m) step next) message steps after
      → FoldsTo (λ m step next. IsPermittedStep label (context_with (under context) m) step next) message steps after
  unfolding under
  steps_under [] label context message after agree are = are
  steps_under (step ∷ steps) label context message after agree are =
      let here : AgreeFor step (context_with context message) (under (context_with context message)) = λ rests. agree (or_left (rests_on_conf step) (list_any rests_on_conf steps) rests) in (
        are.0,
        permitted_under label (context_with context message) step are.0 here are.1,
        steps_under steps label context are.0 after (λ rests. agree (or_right (rests_on_conf step) (list_any rests_on_conf steps) rests)) are.2,
      )

-- ---- the verdict

module _ (gives_kind : GivesKind) (depends : DependsOnMessages) (keeps_over_steps : KeepsOverSteps) where
  kept : (script : List Rewrite) (label : List ℕ) (context : MessageContext) (after : Message) → IsTrue (list_all is_writable script) → HaveValues script
      → Steps (IsPermittedStep label) context script after → HasSameVerdict context after label
  kept [] label context after writable values are =
      subst (λ (m : Message). HasSameVerdict context m label) are (λ conf now seen verdict. (λ is. is, λ is. is))
  kept (step ∷ script) label context after writable values are =
      let first = are.1 in
      (keeps_over_steps context (step ∷ script) label first.params first.tag after writable values first.signature are).verdict

  pub verdict_where_rewritten : HasVerdictWhereRewritten
  unfolding under
  verdict_where_rewritten label script context bytes written message conf writable values agree spells reports also =
      let end = end_is gives_kind script (Some label) 0 context written spells.is reports in
      let same : end.after ≡ message = one_text (answers_head context.related) written end.after message end.spells also in
      subst (λ (m : Message). HasSameVerdict (context_for conf context.message context.related) m label) same
      (kept script label (context_for conf context.message context.related) end.after writable values
      (steps_under conf depends script label context context.message end.after agree end.steps))

-- A walk step by step: where it is, and why it ends.
use Rattle.std.proofs.Common.{◌≡◌, ◌≢◌, ◌<◌, ◌≤◌, ◌+◌, ℕ, suc, List, [], ◌∷◌, ◌++◌, length, get_or, take, Some, Result, Ok, Err, refl, sym, ap, subst, ◌∙◌, inl, inr, arith}
use Rattle.std.specs.Prelude.{slice_get}
use Rattle.std.proofs.lemmas.Fn.{FoldsTo-push}
use Rattle.std.proofs.lemmas.List.{take_more, take_all}
use Rattle.std.proofs.lemmas.Option.{get_or_from_slice_get, slice_get_read, slice_get_within}
use Rattle.msg_body.specs.Messages.{Message}
use Rattle.component_values.specs.Context.{MessageContext, answers_head, context_with}
use Rattle.rewrite_script.specs.declared.rewrite.Rewrite.{Rewrite}
use Rattle.line_rewrites.specs.Sized.{SpellsSized}
use Rattle.rewrites.specs.Steps.{IsNotApplicable, Step}
use Rattle.rewrites.specs.Walks.{EndsAt, IsWatchedStep, ReportsWalk, Walks}
use Rattle.rewrites.specs.tools.Walked.{IsMadeAt, SaysGiven, SaysMet, SaysNext, count_in}
use Rattle.rewrites.specs.declared.watcher.Judgement.{Judgement}
use Rattle.rewrites.specs.declared.watcher.Judgement.TheVariants.{Permitted, Forbidden, Unjudged}
use Rattle.rewrites.specs.declared.fault.WalkFault.{WalkFault}
use Rattle.rewrites.specs.declared.fault.WalkFault.TheVariants as fault
use Rattle.rewrites.specs.declared.walks.Made.{Made}

-- the step at an index ends the steps up to it
taken_more : (steps : List Rewrite) (index : ℕ) (step : Rewrite) → slice_get steps index ≡ Some step → take (index + 1) steps ≡ take index steps ++ step ∷ []
taken_more steps index step there =
    take_more steps index step (slice_get_within steps index step there)
    ∙ ap (λ (s : Rewrite). take index steps ++ s ∷ []) (get_or_from_slice_get steps index step step there)

-- the step at an index of the others
pub next_there : (steps others : List Rewrite) (first : Rewrite) (index : ℕ) (step : Rewrite) → steps ≡ first ∷ others → index < length others → step ≡ get_or others index step
    → slice_get steps (index + 1) ≡ Some step
next_there steps others first index step parts lt is =
    ap (λ (ss : List Rewrite). slice_get ss (index + 1)) parts ∙ (later (index + 1) (omega arith) ∙ slice_get_read others (length others) index step refl lt is)
  where
    later : (n : ℕ) → n ≡ suc index → slice_get (first ∷ others) n ≡ slice_get others index
    later n same = ap (λ (m : ℕ). slice_get (first ∷ others) m) same

-- what is judged and not forbidden is permitted
permitted : (judgement : Judgement) → judgement ≢ Unjudged → judgement ≢ Forbidden → judgement ≡ Permitted
permitted Permitted judged allowed = refl
permitted Forbidden judged allowed = absurd (allowed refl)
permitted Unjudged judged allowed = absurd (judged refl)

module _ {W : Type 0} (Judges : MessageContext → Rewrite → W → W → Judgement → Type 0) (context : MessageContext) (was : W) (steps : List Rewrite) where
  -- a step that is met where others lead isn't made
  ends : (index : ℕ) (step : Rewrite) (now : W) (why : WalkFault) (message : Message) (watcher : W) → Walks Judges context was (take index steps) message watcher → slice_get steps index ≡ Some step
      → SaysMet Judges (context_with context message) index step watcher now (Err why) → ReportsWalk Judges context was steps now (Err why)
  ends index step now (fault.Unjudged at) message watcher lead there says =
      subst (λ (n : ℕ). EndsAt Judges context was steps n now (λ _ _ judgement. judgement ≡ Unjudged)) (sym says.0)
      (record { message = message; watcher = watcher; lead = lead; step = step; there = there; judgement = Unjudged; judged = says.1; why = refl })
  ends index step now (fault.NotApplicable at) message watcher lead there says =
      rw says.0 (record { message = message; watcher = watcher; lead = lead; step = step; there = there; judgement = says.1.0; judged = says.1.1; why = says.1.2 })
  ends index step now (fault.NotPermitted at) message watcher lead there says = absurd says
  ends index step now fault.Memory message watcher lead there says = tt

  module _ (index : ℕ) (now : W) (made : Made) (at : IsMadeAt Judges context was steps index now made) where
    -- the message that the text is of is what the step gives
    gives_where_spelled : (message : Message) → SpellsSized (answers_head context.related) made.text (count_in context) message → Step (context_with context at.message) at.step message
    gives_where_spelled message spelled =
        (at.made_is.spells message).1 (subst (λ (n : ℕ). SpellsSized (answers_head context.related) made.text n message) (sym at.sized) spelled)

    none_where_unspelled : ((message : Message) → ¬ SpellsSized (answers_head context.related) made.text (count_in context) message) → IsNotApplicable (context_with context at.message) at.step
    none_where_unspelled none = λ after gives.
        none after (subst (λ (n : ℕ). SpellsSized (answers_head context.related) made.text n after) at.sized ((at.made_is.spells after).0 gives))

    leads : (message : Message) → SpellsSized (answers_head context.related) made.text (count_in context) message → made.judgement ≢ Forbidden → Walks Judges context was (take (index + 1) steps) message now
    leads message spelled allowed =
        let here : IsWatchedStep Judges (context_with context at.message) at.watcher at.step message now = record {
          judged = subst (λ (j : Judgement). Judges (context_with context at.message) at.step at.watcher now j) (permitted made.judgement at.made_is.is_judged allowed) at.made_is.judged;
          gives = gives_where_spelled message spelled;
        } in
        subst (λ (ss : List Rewrite). Walks Judges context was ss message now) (sym (taken_more steps index at.step at.there))
        (FoldsTo-push {P = Message × W} (λ a step next. IsWatchedStep Judges (context_with context a.0) a.1 step next.0 next.1) (context.message, was) (take index steps) (at.message, at.watcher) at.step (message, now)
        at.lead here)

    -- the walk ends at the step
    pub ends_here : (why : WalkFault) → SaysGiven (answers_head context.related) (count_in context) index made (Err why) → ReportsWalk Judges context was steps now (Err why)
    ends_here (fault.Unjudged n) says = absurd says
    ends_here (fault.NotApplicable n) says =
        rw says.0 (record {
          message = at.message;
          watcher = at.watcher;
          lead = at.lead;
          step = at.step;
          there = at.there;
          judgement = made.judgement;
          judged = at.made_is.judged;
          why = (at.made_is.is_judged, none_where_unspelled says.1);
        })
    ends_here (fault.NotPermitted n) says =
        rw says.0 (record {
          message = at.message;
          watcher = at.watcher;
          lead = at.lead;
          step = at.step;
          there = at.there;
          judgement = made.judgement;
          judged = at.made_is.judged;
          why = (says.1, (says.2.0, gives_where_spelled says.2.0 says.2.1));
        })
    ends_here fault.Memory says = tt

    -- the walk is done with the step
    pub done : length steps ≤ index + 1 → (message : Message) → SpellsSized (answers_head context.related) made.text (count_in context) message → made.judgement ≢ Forbidden
        → ReportsWalk Judges context was steps now (Ok made.text)
    done past message spelled allowed =
        (message, subst (λ (ss : List Rewrite). Walks Judges context was ss message now) (take_all (index + 1) steps past) (leads message spelled allowed), spelled.spells)

    -- the next step is made, or it ends the walk
    module _ (step : Rewrite) (there : slice_get steps (index + 1) ≡ Some step) (next : W) where
      pub made_more : (more : Made) → SaysNext Judges context made index step now next (Ok more) → IsMadeAt Judges context was steps (index + 1) next more
      made_more more says = elim says [
        | inl ended ↦ absurd (not_ok ended.1)
        | inr goes ↦ record {
          message = goes.0;
          watcher = now;
          lead = leads goes.0 goes.1 goes.2;
          sized = goes.1.sized;
          step = step;
          there = there;
          made_is = goes.3;
        }
      ]
        where
          not_ok : {w : WalkFault} → ◌≡◌ {A = Result Made WalkFault} (Ok more) (Err w) → ⊥
          not_ok e = cc

      pub ended_more : (why : WalkFault) → SaysNext Judges context made index step now next (Err why) → ReportsWalk Judges context was steps next (Err why)
      ended_more why says = elim says [
        | inl ended ↦
            let same : why ≡ ended.0 = cc (ended.1) in
            subst (λ (w : W). ReportsWalk Judges context was steps w (Err why)) (sym ended.2) (ends_here why (rw same ended.3))
        | inr goes ↦ ends (index + 1) step next why goes.0 now (leads goes.0 goes.1 goes.2) there goes.3
      ]

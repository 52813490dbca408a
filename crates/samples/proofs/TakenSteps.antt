-- The message after the steps of a sample.
use Rattle.std.proofs.Common.{◌≡◌, ◌≤◌, ℕ, false, None, List, [], ◌∷◌, length, take, Ok, refl, sym, ap, subst, ◌∙◌}
use Rattle.std.specs.List.{FoldsTo}
use Rattle.msg_body.specs.Messages.{Message, Spells}
use Rattle.msg_body.specs.WholeTexts.{IsMessageFault, IsWhole, any_message}
use Rattle.msg_body.specs.declared.error.MessageFault.{MessageFault}
use Rattle.msg_body.specs.declared.whole.Reading.{Reading}
use Rattle.msg_body.proofs.WholeTexts.{no_fault_of_whole}
use Rattle.msg_body.specs.declared.limits.TheConstants.{MAX_MESSAGE_BYTES}
use Rattle.component_values.specs.Context.{MessageContext, answers_head, context_with}
use Rattle.settings.specs.Configuration.{Configuration}
use Rattle.rewrite_script.specs.declared.rewrite.Rewrite.{Rewrite}
use Rattle.rewrites.specs.Steps.{Step, Steps}
use Rattle.rewrites.specs.Walks.{EndsAt, IsInapplicableStep, IsWatchedStep, ReportsWalk}
use Rattle.rewrites.specs.declared.watcher.Judgement.{Judgement}
use Rattle.verdicts.specs.Contexts.{context_for}
use Rattle.hop_audit.specs.Hops.{IsStoppedAt}
use Rattle.hop_audit.proofs.StepLists.{leads_or_stops}
use Rattle.samples.specs.Chains.{sample_context}
use Rattle.samples.specs.Requests.{sample_configuration}
use Rattle.samples.specs.tools.Made.{LeadsTo}

-- a message's text is within the limit
pub within_limit : (text : List ℕ) (message : Message) → Spells false message text → length text ≤ MAX_MESSAGE_BYTES
within_limit text message spells = subst (λ (t : List ℕ). length t ≤ MAX_MESSAGE_BYTES) (sym spells.text) spells.is.short

-- the context of a sample's message
pub context_is : (context : MessageContext) (conf : Configuration) (message : Message) → context ≡ context_for conf message None → conf ≡ sample_configuration → context ≡ sample_context message
context_is context conf message is conf_is = is ∙ ap (λ (c : Configuration). context_for c message None) conf_is

-- ---- the steps

module _ {W : Type 0} (Judges : MessageContext → Rewrite → W → W → Judgement → Type 0) (context : MessageContext) where
  -- watched or not, they lead to the same
  walk_leads : (steps : List Rewrite) (from to : Message × W) → FoldsTo {P = Message × W} (λ at step next. IsWatchedStep Judges (context_with context at.0) at.1 step next.0 next.1) from steps to
      → FoldsTo (λ message step next. Step (context_with context message) step next) from.0 steps to.0
  walk_leads [] from to same = ap (λ (at : Message × W). at.0) same
  walk_leads (step ∷ steps) from to walks = (walks.0.0, walks.1.gives, walk_leads steps walks.0 to walks.2)

  module _ (message : Message) (is : context ≡ sample_context message) (steps : List Rewrite) (was now : W) where
    -- the text at the end of a walk
    pub walk_spells : (text : List ℕ) → ReportsWalk Judges context was steps now (Ok text) → LeadsTo message steps text
    walk_spells text report =
        let lead : Steps Step context steps report.0 = walk_leads steps (context.message, was) (report.0, now) report.1 in
        record {
          after = report.0;
          lead = subst (λ (c : MessageContext). Steps Step c steps report.0) is lead;
          spells = subst (λ (c : MessageContext). Spells (answers_head c.related) report.0 text) is report.2;
        }

    -- steps that lead to a message don't stop
    pub walk_goes_on : (after : Message) → Steps Step (sample_context message) steps after → (index : ℕ) → ¬ EndsAt Judges context was steps index now IsInapplicableStep
    walk_goes_on after lead index ends =
        let stopped : IsStoppedAt context steps index = record {
          met = ends.message;
          before = walk_leads (take index steps) (context.message, was) (ends.message, ends.watcher) ends.lead;
          step = ends.step;
          there = ends.there;
          stops = ends.why.1;
        } in
        leads_or_stops steps (sample_context message) after index lead (subst (λ (c : MessageContext). IsStoppedAt c steps index) is stopped)

-- ---- the text that is read

-- what is read of equal bytes, in this way
pub read_whole : (reading : Reading) (bytes text : List ℕ) (view : Message) → reading ≡ any_message → bytes ≡ text → IsWhole reading bytes view → Spells false view text
read_whole reading bytes text view read same whole =
    (subst (λ (r : Reading). IsWhole r text view) read (subst (λ (t : List ℕ). IsWhole reading t view) same whole)).spells

-- a message's text has no fault
pub no_read_fault : (reading : Reading) (bytes text : List ℕ) (message : Message) (fault : MessageFault) → reading ≡ any_message → bytes ≡ text → Spells false message text → ¬ IsMessageFault reading bytes fault
no_read_fault reading bytes text message fault read same spells is =
    let here = subst (λ (r : Reading). IsMessageFault r text fault) read (subst (λ (t : List ℕ). IsMessageFault reading t fault) same is) in
    no_fault_of_whole any_message text message fault (record { expected = refl; spells = spells }) here

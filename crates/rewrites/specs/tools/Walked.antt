-- What the parts of a walk answer. No public clause cites this module.
use Rattle.std.specs.Prelude.{◌≡◌, ◌≢◌, ◌⊎◌, ⊤, ℕ, ◌+◌, Bool, Some, Result, Ok, Err, List, length, take, slice_get}
use Rattle.msg_body.specs.Messages.{Message}
use Rattle.msg_body.specs.Views.{MessageParts, message_content, message_of}
use Rattle.component_values.specs.Context.{MessageContext, answers_head, context_with}
use Rattle.rewrite_script.specs.declared.rewrite.Rewrite.{Rewrite}
use Rattle.line_rewrites.specs.Sized.{HasNoSized, SpellsSized}
use Rattle.rewrites.specs.Steps.{SpellsStep}
use Rattle.rewrites.specs.Walks.{IsInapplicableStep, Walks}
use Rattle.rewrites.specs.declared.watcher.Judgement.{Judgement}
use Rattle.rewrites.specs.declared.watcher.Judgement.TheVariants.{Forbidden, Unjudged}
use Rattle.rewrites.specs.declared.fault.WalkFault.{WalkFault}
use Rattle.rewrites.specs.declared.fault.WalkFault.TheVariants as fault
use Rattle.rewrites.specs.declared.walks.Made.{Made}

-- the watcher judged the step so, and the text is what the step makes of the context's message
pub record IsMade {W : Type 0}
    (Judges : MessageContext → Rewrite → W → W → Judgement → Type 0) (context : MessageContext)
    (step : Rewrite) (was now : W) (made : Made) : Type 0 where
  pub is_judged : made.judgement ≢ Unjudged
  pub judged : Judges context step was now made.judgement
  pub spells : SpellsStep context step made.text

-- what the step of this index makes of the message that it meets, or why nothing
abbrev pub SaysMet : {W : Type 0} → (MessageContext → Rewrite → W → W → Judgement → Type 0)
    → MessageContext → ℕ → Rewrite → W → W → Result Made WalkFault → Type 0
SaysMet Judges context index step was now (Ok made) = IsMade Judges context step was now made
SaysMet Judges context index step was now (Err (fault.Unjudged at)) =
    (at ≡ index) × Judges context step was now Unjudged
SaysMet Judges context index step was now (Err (fault.NotApplicable at)) =
    (at ≡ index) × ((judgement : Judgement) × Judges context step was now judgement
    × IsInapplicableStep context step judgement)
SaysMet Judges context index step was now (Err (fault.NotPermitted at)) = ⊥
SaysMet Judges context index step was now (Err fault.Memory) = ⊤

-- the message that the text is of, whose content has so many bytes, where the step of this index
-- isn't forbidden
abbrev pub SaysGiven : Bool → ℕ → ℕ → Made → Result MessageParts WalkFault → Type 0
SaysGiven to_head count index made (Ok view) =
    SpellsSized to_head made.text count (message_of view) × (made.judgement ≢ Forbidden)
SaysGiven to_head count index made (Err (fault.Unjudged at)) = ⊥
SaysGiven to_head count index made (Err (fault.NotApplicable at)) =
    (at ≡ index) × HasNoSized to_head made.text count
SaysGiven to_head count index made (Err (fault.NotPermitted at)) = (at ≡ index)
    × (made.judgement ≡ Forbidden)
    × ((message : Message) × SpellsSized to_head made.text count message)
SaysGiven to_head count index made (Err fault.Memory) = ⊤

-- how many bytes the content has
abbrev pub count_in : MessageContext → ℕ
count_in context = length (message_content context.message)

-- what the next step makes of the message that the text is of, or why nothing
abbrev pub SaysNext : {W : Type 0} → (MessageContext → Rewrite → W → W → Judgement → Type 0)
    → MessageContext → Made → ℕ → Rewrite → W → W → Result Made WalkFault → Type 0
SaysNext Judges context made index step was now result =
    ((why : WalkFault) × (result ≡ Err why) × (now ≡ was)
    × SaysGiven (answers_head context.related) (count_in context) index made (Err why))
    ⊎ ((message : Message)
    × SpellsSized (answers_head context.related) made.text (count_in context) message
    × (made.judgement ≢ Forbidden)
    × SaysMet Judges (context_with context message) (index + 1) step was now result)

-- The steps before the one of this index lead to a message, of which it made the text.
pub record IsMadeAt {W : Type 0}
    (Judges : MessageContext → Rewrite → W → W → Judgement → Type 0) (context : MessageContext)
    (was : W) (steps : List Rewrite) (index : ℕ) (now : W) (made : Made) : Type 0 where
  pub message : Message
  pub watcher : W
  pub lead : Walks Judges context was (take index steps) message watcher
  pub sized : length (message_content message) ≡ count_in context
  pub step : Rewrite
  pub there : slice_get steps index ≡ Some step
  pub made_is : IsMade Judges (context_with context message) step watcher now made

-- The message that a step gives: one of field lines, or one of the whole message. A step that has
-- no such message isn't applicable.
use Rattle.std.specs.Prelude.{◌≡◌, ◌↔◌, List, ℕ, length}
use Rattle.std.specs.List.{FoldsTo}
use Rattle.msg_body.specs.Messages.{Message, message_text}
use Rattle.msg_body.specs.Views.{message_content}
use Rattle.component_values.specs.Context.{MessageContext, answers_head, context_with}
use Rattle.rewrite_script.specs.declared.rewrite.Rewrite.{Rewrite}
use Rattle.rewrite_script.specs.declared.rewrite.Rewrite.TheVariants.{Lines, Whole}
use Rattle.line_rewrites.specs.Sized.{SpellsSized}
use Rattle.line_rewrites.specs.Steps.{LineStep}
use Rattle.whole_rewrites.specs.Steps.{GivesWhole}

-- the step gives the message
abbrev pub Step : MessageContext → Rewrite → Message → Type 0
Step context (Lines step) result = LineStep context step result
Step context (Whole step) result = GivesWhole context step result

-- the step isn't applicable
abbrev pub IsNotApplicable : MessageContext → Rewrite → Type 0
IsNotApplicable context step = (after : Message) → ¬ Step context step after

-- the text is that of the message which the step gives
abbrev pub Rewrites : MessageContext → Rewrite → List ℕ → Type 0
Rewrites context step text = (after : Message) × Step context step after
    × (text ≡ message_text after)

-- The text tells what the step gives: the message that it is a text of, with as much content as the
-- context's has. Where it is a text of no such message, the step isn't applicable.
abbrev pub SpellsStep : MessageContext → Rewrite → List ℕ → Type 0
SpellsStep context step text = (after : Message) → Step context step after
    ↔ SpellsSized (answers_head context.related) text (length (message_content context.message))
    after

-- ---- lists of steps

-- The steps lead from the context's message to this one: each is taken on the message that the one
-- before it gave.
abbrev pub Steps : {R : Type 0} → (MessageContext → R → Message → Type 0) → MessageContext → List R
    → Message → Type 0
Steps Takes context steps after =
    FoldsTo (λ message step next. Takes (context_with context message) step next)
    context.message steps after

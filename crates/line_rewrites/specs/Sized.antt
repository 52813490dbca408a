-- Texts of messages whose content has so many bytes.
use Rattle.std.specs.Prelude.{◌≡◌, ◌↔◌, ℕ, Bool, List, length}
use Rattle.msg_body.specs.Messages.{Message, Spells}
use Rattle.msg_body.specs.Views.{message_content}
use Rattle.component_values.specs.Context.{MessageContext, answers_head}
use Rattle.rewrite_script.specs.declared.rewrite.LineRewrite.{LineRewrite}
use Rattle.line_rewrites.specs.Steps.{LineStep}

-- the text is that of a message whose content has so many bytes
pub record SpellsSized (to_head : Bool) (text : List ℕ) (count : ℕ) (message : Message)
    : Type 0 where
  pub spells : Spells to_head message text
  pub sized : length (message_content message) ≡ count

-- it is that of none
abbrev pub HasNoSized : Bool → List ℕ → ℕ → Type 0
HasNoSized to_head text count = (message : Message) → ¬ SpellsSized to_head text count message

-- The text tells what the step gives: the message that it is a text of, with as much content as the
-- message had. Where it is a text of no such message, the step isn't applicable.
abbrev pub SpellsLineStep : MessageContext → LineRewrite → List ℕ → Type 0
SpellsLineStep context step text = (after : Message) → LineStep context step after
    ↔ SpellsSized (answers_head context.related) text
    (length (message_content context.message)) after

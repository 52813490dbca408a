-- Laws of rewritings of field lines: what a step gives, and what is permitted.
use Rattle.std.specs.Prelude.{◌≡◌, ◌⊎◌, ℕ, Bool, IsTrue, List, length}
use Rattle.framing.specs.Framings.{is_request}
use Rattle.msg_body.specs.Messages.{IsMessage, Message, message_text}
use Rattle.msg_body.specs.Views.{message_content}
use Rattle.component_ids.specs.declared.params.SigParams.{SigParams}
use Rattle.component_values.specs.Context.{MessageContext, answers_head}
use Rattle.rewrite_script.specs.Lines.{is_line_writable}
use Rattle.rewrite_script.specs.declared.rewrite.LineRewrite.{LineRewrite}
use Rattle.line_rewrites.specs.SameFor.{SameFor}
use Rattle.line_rewrites.specs.Sized.{SpellsSized}
use Rattle.line_rewrites.specs.Sound.{IsSoundMessage}
use Rattle.line_rewrites.specs.Steps.{LineStep}
use Rattle.line_rewrites.specs.Permitted.{PermitsLines}

-- a step gives at most one message
abbrev pub GivesOneByLines : Type 0
GivesOneByLines =
    (context : MessageContext) (step : LineRewrite) (after other : Message)
    → LineStep context step after → LineStep context step other → after ≡ other

-- what a step gives is a message of the same kind
abbrev pub GivesKindByLines : Type 0
GivesKindByLines =
    (context : MessageContext) (step : LineRewrite) (after : Message)
    → LineStep context step after → IsMessage (answers_head context.related) after
    × (is_request after.head.start ≡ is_request context.message.head.start)

-- What a step gives, and whether it is permitted, is said of the messages alone: another scheme and
-- other kinds of fields don't count.
pub record DependsOnMessagesByLines : Type 0 where
  pub gives : (context other : MessageContext) (step : LineRewrite) (after : Message)
      → other.message ≡ context.message → other.related ≡ context.related
      → LineStep context step after → LineStep other step after
  pub permits : (context other : MessageContext) (step : LineRewrite) (label : List ℕ)
      (params : SigParams) → other.message ≡ context.message
      → PermitsLines context step label params → PermitsLines other step label params

-- a step that is permitted gives a message that is the same for the signature
abbrev pub IsSameWhereLinesPermitted : Type 0
IsSameWhereLinesPermitted =
    (context : MessageContext) (step : LineRewrite) (label : List ℕ) (params : SigParams)
    (after : Message) → IsTrue (is_line_writable step) → LineStep context step after
    → PermitsLines context step label params → SameFor params context.message after

-- a text is that of at most one message whose content has so many bytes, whatever the limits
abbrev pub HasOneSound : Type 0
HasOneSound =
    (to_head : Bool) (one other : Message) → IsSoundMessage to_head one
    → IsSoundMessage to_head other → message_text one ≡ message_text other
    → length (message_content one) ≡ length (message_content other) → one ≡ other

-- every message is sound
abbrev pub IsSoundWhereRead : Type 0
IsSoundWhereRead = (to_head : Bool) (message : Message) → IsMessage to_head message
    → IsSoundMessage to_head message

-- a text is that of a message whose content has so many bytes, or isn't
abbrev pub AreSizedOrNot : Type 0
AreSizedOrNot = (to_head : Bool) (text : List ℕ) (count : ℕ)
    → ((message : Message) × SpellsSized to_head text count message)
    ⊎ ((message : Message) → ¬ SpellsSized to_head text count message)

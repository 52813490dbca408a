-- What holds of each kind of rewriting of the whole message. No public clause cites this module.
use Rattle.std.specs.Prelude.{◌≡◌, ◌⊎◌, IsTrue}
use Rattle.msg_body.specs.Messages.{Message, IsMessage}
use Rattle.msg_body.specs.Views.{message_content}
use Rattle.component_values.specs.Context.{MessageContext, answers_head}
use Rattle.rewrite_script.specs.Lines.{is_whole_writable}
use Rattle.rewrite_script.specs.declared.rewrite.WholeRewrite.{WholeRewrite}
use Rattle.line_rewrites.specs.Sound.{IsSoundMessage}
use Rattle.whole_rewrites.specs.Steps.{Makes}

-- it makes at most one message
abbrev pub MakesOne : WholeRewrite → Type 0
MakesOne step = (context : MessageContext) (one other : Message) → Makes context step one
    → Makes context step other → one ≡ other

-- it makes a message, or none
abbrev pub MakesOrNot : WholeRewrite → Type 0
MakesOrNot step = (context : MessageContext) → IsTrue (is_whole_writable step)
    → IsMessage (answers_head context.related) context.message
    → ((made : Message) × Makes context step made) ⊎ ((made : Message) → ¬ Makes context step made)

-- what it makes of a message is sound, or is none
abbrev pub MakesSoundOrNot : WholeRewrite → Type 0
MakesSoundOrNot step = (context : MessageContext) (made : Message)
    → IsTrue (is_whole_writable step)
    → IsMessage (answers_head context.related) context.message → Makes context step made
    → IsSoundMessage (answers_head context.related) made
    ⊎ (¬ IsMessage (answers_head context.related) made)

-- it keeps the content
abbrev pub KeepsContent : WholeRewrite → Type 0
KeepsContent step = (context : MessageContext) (made : Message) → Makes context step made
    → message_content made ≡ message_content context.message

-- all of these
pub record IsExactKind (step : WholeRewrite) : Type 0 where
  pub one : MakesOne step
  pub or_not : MakesOrNot step
  pub sound : MakesSoundOrNot step
  pub content : KeepsContent step

-- what it makes of a message it makes of it in another context that agrees
abbrev pub DependsOn : (MessageContext → MessageContext → Type 0) → WholeRewrite → Type 0
DependsOn Agree step = (context other : MessageContext) → Agree context other
    → (made : Message) → Makes context step made → Makes other step made

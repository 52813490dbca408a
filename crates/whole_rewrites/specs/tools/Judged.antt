-- What the parts of the code answer. No public clause cites this module.
use Rattle.std.specs.Prelude.{◌≡◌, ⊤, ℕ, Result, Ok, Err, List}
use Rattle.msg_body.specs.Messages.{Message, IsMessage, message_text}
use Rattle.component_values.specs.Context.{MessageContext, answers_head}
use Rattle.rewrite_script.specs.declared.rewrite.WholeRewrite.{WholeRewrite}
use Rattle.line_rewrites.specs.declared.fault.ApplyFault.{ApplyFault}
use Rattle.line_rewrites.specs.declared.fault.ApplyFault.TheVariants.{Memory, NotApplicable}
use Rattle.line_rewrites.specs.Sound.{IsSoundMessage}
use Rattle.whole_rewrites.specs.Steps.{Makes}

-- the text is that of what the rewriting makes of the message, and sound
pub record IsOffered (context : MessageContext) (step : WholeRewrite) (text : List ℕ) : Type 0 where
  pub made : Message
  pub makes : Makes context step made
  pub sound : IsSoundMessage (answers_head context.related) made
  pub text_is : text ≡ message_text made

-- such a text, or the rewriting makes no message
abbrev pub Offers : MessageContext → WholeRewrite → Result (List ℕ) ApplyFault → Type 0
Offers context step (Ok text) = IsOffered context step text
Offers context step (Err NotApplicable) = (made : Message) → Makes context step made
    → ¬ IsMessage (answers_head context.related) made
Offers context step (Err Memory) = ⊤

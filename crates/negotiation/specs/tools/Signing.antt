-- What the parts of the code that signs more than once answer. No public clause cites this module.
use Rattle.std.specs.Prelude.{◌≡◌, ⊤, ℕ, List, take, Result, Ok, Err}
use Rattle.msg_head.specs.Heads.{Head}
use Rattle.msg_body.specs.Messages.{Message, Spells, with_head}
use Rattle.component_values.specs.Context.{MessageContext, answers_head, context_with}
use Rattle.signing.specs.SignCauses.{IsSignFault}
use Rattle.signing.specs.Signed.{HasSomeSignature}
use Rattle.signing.specs.declared.fault.SignFault.{SignFault}
use Rattle.signing.specs.declared.fault.SignFault.TheVariants as fault
use Rattle.signing.specs.declared.spec.SignSpec.{SignSpec}
use Rattle.negotiation.specs.Each.{IsSignedFaultless, IsSignedEach, SpellsEach, IsEachFault}
use Rattle.negotiation.specs.declared.fault.EachFault.{EachFault}
use Rattle.negotiation.specs.declared.fault.EachFault.TheVariants.{Memory, Sign}

-- the fault of the signature at the index
abbrev pub fault_at : ℕ → SignFault → EachFault
fault_at index fault.Memory = Memory
fault_at index fault = Sign index fault

-- The text is that of a message that has a signature, with another head than the context's message.
pub record IsSignedText (context : MessageContext) (text : List ℕ) : Type 0 where
  pub head : Head
  pub spells : Spells (answers_head context.related) (with_head context.message head) text
  pub has : HasSomeSignature (with_head context.message head)

-- the text is that of the signed message, against which there is no cause
pub record IsSignedOnce (context : MessageContext) (spec : SignSpec) (text : List ℕ)
    : Type 0 where
  pub written : Message
  pub signed : IsSignedFaultless context spec written
  pub spells : Spells (answers_head context.related) written text
  pub has : HasSomeSignature written

-- the signed message, or the first fault
abbrev pub ExplainsOnce : MessageContext → SignSpec → Result (List ℕ) SignFault → Type 0
ExplainsOnce context spec (Ok text) = IsSignedOnce context spec text
ExplainsOnce context spec (Err fault.Memory) = ⊤
ExplainsOnce context spec (Err fault) = IsSignFault context spec fault

-- the same of the message of these bytes
abbrev pub ExplainsNext : MessageContext → List ℕ → SignSpec → Result (List ℕ) SignFault → Type 0
ExplainsNext context text spec result =
    (message : Message) → Spells (answers_head context.related) message text
    → ExplainsOnce (context_with context message) spec result

-- the text is that of the message with so many of these signatures, at least one
pub record AreSignedSoFar (context : MessageContext) (specs : List SignSpec) (count : ℕ)
    (text : List ℕ) : Type 0 where
  pub message : Message
  pub signed : IsSignedEach context (take count specs) message
  pub spells : Spells (answers_head context.related) message text
  pub head_is : message ≡ with_head context.message message.head
  pub has : HasSomeSignature message

-- the message with each of these signatures, or the first fault
abbrev pub ExplainsEach : MessageContext → List SignSpec → Result (List ℕ) EachFault → Type 0
ExplainsEach context specs (Ok text) = SpellsEach context specs text
ExplainsEach context specs (Err Memory) = ⊤
ExplainsEach context specs (Err fault) = IsEachFault context specs fault

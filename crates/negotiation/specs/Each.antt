-- Messages with more than one signature, each over the message that the one before it gave.
use Rattle.std.specs.Prelude.{◌≡◌, ℕ, List, [], ◌∷◌, take, slice_get, IsSomeAnd}
use Rattle.msg_body.specs.Messages.{Message, Spells}
use Rattle.component_values.specs.Context.{MessageContext, answers_head, context_with}
use Rattle.signing.specs.SignCauses.{IsSignFault}
use Rattle.signing.specs.Signed.{IsSignedMessage}
use Rattle.signing.specs.declared.fault.SignFault.{SignFault}
use Rattle.signing.specs.declared.spec.SignSpec.{SignSpec}
use Rattle.negotiation.specs.declared.fault.EachFault.{EachFault}
use Rattle.negotiation.specs.declared.fault.EachFault.TheVariants.{Memory, Sign}

-- the message is the signed one, and no cause is against it
pub record IsSignedFaultless (context : MessageContext) (spec : SignSpec) (written : Message)
    : Type 0 where
  pub signed : IsSignedMessage context spec written
  pub none : (fault : SignFault) → ¬ IsSignFault context spec fault

-- the message has each of these signatures in order, each over the message that the one before it
-- gave
abbrev pub IsSignedEach : MessageContext → List SignSpec → Message → Type 0
IsSignedEach context [] written = written ≡ context.message
IsSignedEach context (spec ∷ specs) written =
    (signed : Message) × IsSignedFaultless context spec signed
    × IsSignedEach (context_with context signed) specs written

-- the text spells the message with each of these signatures
abbrev pub SpellsEach : MessageContext → List SignSpec → List ℕ → Type 0
SpellsEach context specs text =
    (written : Message) × IsSignedEach context specs written
    × Spells (answers_head context.related) written text

-- The signatures before the index are made, and the fault is the first for which the one at the
-- index isn't, over the message that they gave.
pub record IsUnsignedAt (context : MessageContext) (specs : List SignSpec) (index : ℕ)
    (fault : SignFault) : Type 0 where
  pub before : Message
  pub signed : IsSignedEach context (take index specs) before
  pub there : IsSomeAnd (slice_get specs index)
      (λ spec. IsSignFault (context_with context before) spec fault)

-- the first signature that isn't made, and why
abbrev pub IsEachFault : MessageContext → List SignSpec → EachFault → Type 0
IsEachFault context specs (Sign index fault) = IsUnsignedAt context specs index fault
IsEachFault context specs Memory = ⊥

-- Laws of responses that are signed as their requests ask, and of why they aren't.
use Rattle.std.specs.Prelude.{◌≡◌, ◌⊎◌, ◌≤◌, ℕ, IsSome, Some, List}
use Rattle.std.specs.List.{All, Contains}
use Rattle.sfv_text.specs.declared.pair.Pair.{Pair}
use Rattle.sfv_text.specs.declared.value.Member.{Member}
use Rattle.msg_body.specs.Messages.{Message, Spells, message_text}
use Rattle.component_ids.specs.declared.params.SigParams.{SigParams}
use Rattle.component_values.specs.Context.{MessageContext, HasWholeMessage, answers_head, context_with}
use Rattle.content_digest.specs.declared.algorithm.Algorithm.{Algorithm}
use Rattle.nonces.specs.declared.limits.TheConstants.{MAX_MOMENT}
use Rattle.settings.specs.Configuration.{Configuration}
use Rattle.settings.specs.Valid.{IsValid}
use Rattle.signatures.specs.Signatures.{HasDict, HasSignature}
use Rattle.signing.specs.Specs.{IsValidSpec}
use Rattle.signing.specs.Wishes.{MeetsWish, wish_name, wished_keyid}
use Rattle.signing.specs.declared.spec.SignSpec.{SignSpec}
use Rattle.verdicts.specs.Laws.{IsRightlySigned}
use Rattle.verdicts.specs.Verification.{verification_for}
use Rattle.negotiation.specs.Each.{IsSignedEach, IsEachFault}
use Rattle.negotiation.specs.NegotiateCauses.{HasDigestBy, HasRightDigests, IsNegotiateFault}
use Rattle.negotiation.specs.Negotiated.{IsNegotiated}
use Rattle.negotiation.specs.Preferences.{IsChosen}
use Rattle.negotiation.specs.declared.fault.EachFault.{EachFault}
use Rattle.negotiation.specs.declared.fault.NegotiateFault.{NegotiateFault}

-- ---- more than one signature

-- a message has these signatures in at most one way
abbrev pub HasOneSignedEach : Type 0
HasOneSignedEach =
    (context : MessageContext) (specs : List SignSpec) (written other : Message)
    → IsSignedEach context specs written → IsSignedEach context specs other → written ≡ other

-- at most one of them is the first that isn't made, for one fault
abbrev pub HasOneEachFault : Type 0
HasOneEachFault =
    (context : MessageContext) (specs : List SignSpec) (fault other : EachFault)
    → IsEachFault context specs fault → IsEachFault context specs other → fault ≡ other

-- a message has them all, or one is the first that isn't made, and not both
pub record HasSignedEachOrFault : Type 0 where
  pub either : (context : MessageContext) (specs : List SignSpec)
      → ((written : Message) × IsSignedEach context specs written)
      ⊎ ((fault : EachFault) × IsEachFault context specs fault)
  pub apart : (context : MessageContext) (specs : List SignSpec) (written : Message)
      (fault : EachFault) → IsSignedEach context specs written
      → ¬ IsEachFault context specs fault

-- a message that has them all is one, with the same start line
abbrev pub IsMessageWhereSignedEach : Type 0
IsMessageWhereSignedEach =
    (context : MessageContext) (specs : List SignSpec) (written : Message)
    → HasWholeMessage context → All IsValidSpec specs → IsSignedEach context specs written
    → Spells (answers_head context.related) written (message_text written)
    × (written.head.start ≡ context.message.head.start)

-- ---- the digest that is asked for

-- a message asks for at most one digest
abbrev pub HasOneChosen : Type 0
HasOneChosen =
    (message : Message) (algorithm other : Algorithm) → IsChosen message algorithm
    → IsChosen message other → algorithm ≡ other

-- ---- responses

-- a response is signed as its request asks in at most one way
abbrev pub HasOneNegotiated : Type 0
HasOneNegotiated =
    (conf : Configuration) (now : ℕ) (context : MessageContext) (written other : Message)
    → IsNegotiated conf now context written → IsNegotiated conf now context other
    → written ≡ other

-- at most one fault is the first for which it isn't
abbrev pub HasOneNegotiateFault : Type 0
HasOneNegotiateFault =
    (conf : Configuration) (now : ℕ) (context : MessageContext) (fault other : NegotiateFault)
    → IsSome conf.sign → IsNegotiateFault conf now context fault
    → IsNegotiateFault conf now context other → fault ≡ other

-- it is signed without a fault, or a fault is the first for which it isn't
abbrev pub HasNegotiatedOrFault : Type 0
HasNegotiatedOrFault =
    (conf : Configuration) (now : ℕ) (context : MessageContext) → IsSome conf.sign
    → IsSome context.related
    → ((written : Message) × IsNegotiated conf now context written
    × ((fault : NegotiateFault) → ¬ IsNegotiateFault conf now context fault))
    ⊎ ((fault : NegotiateFault) × IsNegotiateFault conf now context fault)

-- what is signed so is a message, with the same start line
abbrev pub IsMessageWhereNegotiated : Type 0
IsMessageWhereNegotiated =
    (conf : Configuration) (now : ℕ) (context : MessageContext) (written : Message)
    → IsValid conf → now ≤ MAX_MOMENT → HasWholeMessage context
    → IsNegotiated conf now context written
    → Spells (answers_head context.related) written (message_text written)
    × (written.head.start ≡ context.message.head.start)

-- ---- the signatures of a response

-- The message has the signature that is wished: its label, its components and parameters. It is
-- rightly signed with the same related request, scheme and types, by the key that the configuration
-- has for its `keyid`, so rules 1 to 12 and 27 to 32 hold for it.
pub record IsSignedAsWished (conf : Configuration) (now : ℕ) (context : MessageContext)
    (wish : Pair Member) : Type 0 where
  pub spec : SignSpec
  pub meets : MeetsWish conf now wish spec
  pub tag : List ℕ
  pub signature : HasSignature context.message wish.key spec.params tag
  pub right : IsRightlySigned (verification_for conf now context wish.key)
      (wished_keyid meets.sign meets.list)

-- a response that is signed as its request asks has each signature that is wished
abbrev pub HasEachWished : Type 0
HasEachWished =
    (conf : Configuration) (now : ℕ) (context : MessageContext) (written request : Message)
    (wishes : List (Pair Member)) (wish : Pair Member) → IsValid conf → now ≤ MAX_MOMENT
    → HasWholeMessage context → IsNegotiated conf now context written
    → context.related ≡ Some request → HasDict request wish_name wishes → Contains wishes wish
    → IsSignedAsWished conf now (context_with context written) wish

-- each label that it had before keeps its signature parameters and its tag
abbrev pub KeepsEachSignature : Type 0
KeepsEachSignature =
    (conf : Configuration) (now : ℕ) (context : MessageContext) (written : Message)
    (label : List ℕ) (params : SigParams) (tag : List ℕ) → IsValid conf → now ≤ MAX_MOMENT
    → HasWholeMessage context → IsNegotiated conf now context written
    → HasSignature context.message label params tag → HasSignature written label params tag

-- ---- the digests of a response

-- Where its request asks for a digest, a response that is signed without a fault has it, and its
-- digests are those of its content.
abbrev pub HasDigestWhereChosen : Type 0
HasDigestWhereChosen =
    (conf : Configuration) (now : ℕ) (context : MessageContext) (written request : Message)
    (algorithm : Algorithm) → IsNegotiated conf now context written
    → ((fault : NegotiateFault) → ¬ IsNegotiateFault conf now context fault)
    → context.related ≡ Some request → IsChosen request algorithm
    → HasDigestBy written algorithm × HasRightDigests written

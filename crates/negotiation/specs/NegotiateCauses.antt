-- Why a response isn't signed as its request asks, in the order in which it is judged.
use Rattle.std.specs.Prelude.{◌⊎◌, ℕ, List, IsSomeAnd}
use Rattle.byte_grammar.specs.Causes.{IsFirst}
use Rattle.sfv_text.specs.declared.value.Member.{Member}
use Rattle.msg_body.specs.Messages.{Message}
use Rattle.msg_body.specs.Views.{message_content}
use Rattle.component_values.specs.Context.{MessageContext}
use Rattle.content_digest.specs.Algorithms.{key_of}
use Rattle.content_digest.specs.Digests.{DigestHolds, digest_name}
use Rattle.content_digest.specs.declared.algorithm.Algorithm.{Algorithm}
use Rattle.settings.specs.Configuration.{Configuration}
use Rattle.signatures.specs.ContentDigests.{digest_text}
use Rattle.signatures.specs.Signatures.{HasField, HasMember}
use Rattle.signing.specs.WishCauses.{IsWantFault}
use Rattle.signing.specs.declared.spec.SignSpec.{SignSpec}
use Rattle.negotiation.specs.Each.{IsEachFault}
use Rattle.negotiation.specs.Negotiated.{AreNegotiated}
use Rattle.negotiation.specs.Preferences.{IsChosen, IsUnacceptable, IsWishMalformed}
use Rattle.negotiation.specs.declared.fault.EachFault.{EachFault}
use Rattle.negotiation.specs.declared.fault.EachFault.TheVariants as each
use Rattle.negotiation.specs.declared.fault.NegotiateFault.{NegotiateFault}
use Rattle.negotiation.specs.declared.fault.NegotiateFault.TheVariants.{Memory, WishMalformed, Unacceptable, DigestUnmet, Wanted, Sign}

-- ---- the digests that a response has (RFC 9530 section 2)

-- one of the message's digests is by the algorithm
abbrev pub HasDigestBy : Message → Algorithm → Type 0
HasDigestBy message algorithm =
    (member : Member) × HasMember message digest_name (key_of algorithm) member

-- the digests of the message are those of its content
abbrev pub HasRightDigests : Message → Type 0
HasRightDigests message = DigestHolds (digest_text message) (message_content message)

-- the message has digests, and they aren't those of its content, or none is by the algorithm
abbrev pub HasOtherDigests : Message → Algorithm → Type 0
HasOtherDigests message algorithm =
    HasField message digest_name
    × ((¬ HasRightDigests message) ⊎ (¬ HasDigestBy message algorithm))

-- the response has digests other than the request asks for
abbrev pub IsDigestUnmet : Message → Message → Type 0
IsDigestUnmet response request =
    (algorithm : Algorithm) × IsChosen request algorithm × HasOtherDigests response algorithm

-- ---- causes

-- the fact holds of the request that is answered
abbrev pub OfRequest : MessageContext → (Message → Type 0) → Type 0
OfRequest context Fact = IsSomeAnd context.related Fact

-- the first signature that isn't made of those that the request wishes, and why
abbrev pub IsWishUnsigned : Configuration → ℕ → MessageContext → EachFault → Message → Type 0
IsWishUnsigned conf now context fault request =
    (specs : List SignSpec) × AreNegotiated conf now request specs
    × IsEachFault context specs fault

-- the fact for which the fault is answered; being out of memory is none of them
abbrev pub IsNegotiateCause : Configuration → ℕ → MessageContext → NegotiateFault → Type 0
IsNegotiateCause conf now context WishMalformed = OfRequest context IsWishMalformed
IsNegotiateCause conf now context Unacceptable = OfRequest context IsUnacceptable
IsNegotiateCause conf now context DigestUnmet =
    OfRequest context (IsDigestUnmet context.message)
IsNegotiateCause conf now context (Wanted fault) =
    OfRequest context (λ request. IsWantFault conf request fault)
IsNegotiateCause conf now context (Sign index fault) =
    OfRequest context (IsWishUnsigned conf now context (each.Sign index fault))
IsNegotiateCause conf now context Memory = ⊥

-- the order in which the causes are judged
abbrev pub negotiate_order : NegotiateFault → ℕ
negotiate_order WishMalformed = 2
negotiate_order Unacceptable = 3
negotiate_order DigestUnmet = 4
negotiate_order (Wanted fault) = 5
negotiate_order (Sign index fault) = 6
negotiate_order Memory = 7

-- the fault's cause is the first that holds
abbrev pub IsNegotiateFault : Configuration → ℕ → MessageContext → NegotiateFault → Type 0
IsNegotiateFault conf now context fault =
    IsFirst negotiate_order (IsNegotiateCause conf now context) fault

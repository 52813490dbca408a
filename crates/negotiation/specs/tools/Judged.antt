-- What the parts of the code that negotiates answer. No public clause cites this module.
use Rattle.std.specs.Prelude.{◌≡◌, ◌<◌, ⊤, ℕ, Option, IfSome, IsSomeAnd, List, map, Result, Ok, Err}
use Rattle.msg_body.specs.Messages.{Message}
use Rattle.component_values.specs.Context.{MessageContext}
use Rattle.content_digest.specs.declared.algorithm.Algorithm.{Algorithm}
use Rattle.settings.specs.Configuration.{Configuration}
use Rattle.signing.specs.WishCauses.{IsWantFault}
use Rattle.signing.specs.Wishes.{AreWished}
use Rattle.signing.specs.declared.fault.WantFault.{WantFault}
use Rattle.signing.specs.declared.fault.WantFault.TheVariants as want
use Rattle.signing.specs.declared.spec.SignSpec.{SignSpec}
use Rattle.negotiation.specs.NegotiateCauses.{HasOtherDigests, IsNegotiateCause, IsNegotiateFault, negotiate_order}
use Rattle.negotiation.specs.Negotiated.{SpellsNegotiated, with_digest_by}
use Rattle.negotiation.specs.Preferences.{IsUnacceptable, IsWishMalformed, IsWishedDigest}
use Rattle.negotiation.specs.declared.fault.EachFault.{EachFault}
use Rattle.negotiation.specs.declared.fault.EachFault.TheVariants as each
use Rattle.negotiation.specs.declared.fault.NegotiateFault.{NegotiateFault}
use Rattle.negotiation.specs.declared.fault.NegotiateFault.TheVariants.{Memory, WishMalformed, Unacceptable, DigestUnmet, Wanted, Sign}

-- the fault of wishes that aren't met
abbrev pub fault_of_want : WantFault → NegotiateFault
fault_of_want want.Memory = Memory
fault_of_want fault = Wanted fault

-- the fault of signatures that aren't made
abbrev pub fault_of_each : EachFault → NegotiateFault
fault_of_each each.Memory = Memory
fault_of_each (each.Sign index fault) = Sign index fault

-- the digest that the request asks for, or why there is none
abbrev pub ExplainsWish : Message → Result (Option Algorithm) NegotiateFault → Type 0
ExplainsWish request (Ok digest) =
    IsWishedDigest request digest × (¬ IsWishMalformed request) × (¬ IsUnacceptable request)
ExplainsWish request (Err Memory) = ⊤
ExplainsWish request (Err WishMalformed) = IsWishMalformed request
ExplainsWish request (Err Unacceptable) =
    IsUnacceptable request × (¬ IsWishMalformed request)
ExplainsWish request (Err fault) = ⊥

-- whether the response has other digests than are asked for
abbrev pub ExplainsDigests : Message → Option Algorithm → Result Unit NegotiateFault → Type 0
ExplainsDigests response wished (Ok done) =
    IfSome wished (λ algorithm. ¬ HasOtherDigests response algorithm)
ExplainsDigests response wished (Err Memory) = ⊤
ExplainsDigests response wished (Err DigestUnmet) = IsSomeAnd wished (HasOtherDigests response)
ExplainsDigests response wished (Err fault) = ⊥

-- the signatures that the request wishes, with the digest, and no fault against them
pub record AreSpecsBy (conf : Configuration) (now : ℕ) (request : Message)
    (digest : Option Algorithm) (specs : List SignSpec) : Type 0 where
  pub wished : List SignSpec
  pub are : AreWished conf now request wished
  pub specs_are : specs ≡ map (with_digest_by digest) wished
  pub none : (fault : WantFault) → ¬ IsWantFault conf request fault

-- these, or the first fault of the wishes
abbrev pub ExplainsSpecs : Configuration → ℕ → Message → Option Algorithm
    → Result (List SignSpec) NegotiateFault → Type 0
ExplainsSpecs conf now request digest (Ok specs) = AreSpecsBy conf now request digest specs
ExplainsSpecs conf now request digest (Err Memory) = ⊤
ExplainsSpecs conf now request digest (Err (Wanted fault)) = IsWantFault conf request fault
ExplainsSpecs conf now request digest (Err fault) = ⊥

-- what is answered, by what its value says, and else the first cause that holds
abbrev pub ExplainsNegotiate : {T : Type 0} → Configuration → ℕ → MessageContext → (T → Type 0)
    → Result T NegotiateFault → Type 0
ExplainsNegotiate conf now context Holds (Ok value) = Holds value
ExplainsNegotiate conf now context Holds (Err Memory) = ⊤
ExplainsNegotiate conf now context Holds (Err fault) = IsNegotiateFault conf now context fault

-- the text is that of the response that is signed as its request asks, and no cause holds
pub record IsNegotiatedText (conf : Configuration) (now : ℕ) (context : MessageContext)
    (text : List ℕ) : Type 0 where
  pub spells : SpellsNegotiated conf now context text
  pub none : (fault : NegotiateFault) → ¬ IsNegotiateCause conf now context fault

-- no cause of a lesser number holds
abbrev pub NoneBelow : Configuration → ℕ → MessageContext → ℕ → Type 0
NoneBelow conf now context n =
    (fault : NegotiateFault) → negotiate_order fault < n → ¬ IsNegotiateCause conf now context fault

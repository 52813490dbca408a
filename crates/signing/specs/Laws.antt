-- Laws of what is signed, and of why it isn't.
use Rattle.std.specs.Prelude.{◌≡◌, ◌⊎◌, ◌≤◌, ℕ, Bool, IsTrue, Option, Some, IsSome, IfSome, List}
use Rattle.std.specs.FinMap as map
use Rattle.std.specs.List.{All, list_all}
use Rattle.sfv_text.specs.Range.{is_string_byte}
use Rattle.msg_body.specs.Messages.{Message, Spells, message_text}
use Rattle.component_values.specs.Context.{MessageContext, answers_head}
use Rattle.nonces.specs.declared.limits.TheConstants.{MAX_MOMENT}
use Rattle.settings.specs.Configuration.{Configuration}
use Rattle.settings.specs.Valid.{IsValid}
use Rattle.settings.specs.declared.sign_conf.SignConf.{SignConf}
use Rattle.signing.specs.Asked.{IsSpecOf}
use Rattle.signing.specs.SignCauses.{IsSignFault}
use Rattle.signing.specs.Signed.{IsSignedMessage, IsVerifiable}
use Rattle.signing.specs.Specs.{IsValidSpec}
use Rattle.signing.specs.WishCauses.{IsWantFault}
use Rattle.signing.specs.Wishes.{AreWished}
use Rattle.signing.specs.declared.fault.SignFault.{SignFault}
use Rattle.signing.specs.declared.fault.WantFault.{WantFault}
use Rattle.signing.specs.declared.spec.SignSpec.{SignSpec}

-- ---- signed messages

-- a message is signed in at most one way
abbrev pub HasOneSignedMessage : Type 0
HasOneSignedMessage =
    (context : MessageContext) (spec : SignSpec) (written other : Message)
    → IsSignedMessage context spec written → IsSignedMessage context spec other → written ≡ other

-- at most one fault is the first for which it isn't
abbrev pub HasOneSignFault : Type 0
HasOneSignFault =
    (context : MessageContext) (spec : SignSpec) (fault other : SignFault)
    → IsSignFault context spec fault → IsSignFault context spec other → fault ≡ other

-- a message is signed without a fault, or a fault is the first for which it isn't
abbrev pub HasSignedMessageOrFault : Type 0
HasSignedMessageOrFault =
    (context : MessageContext) (spec : SignSpec)
    → ((written : Message) × IsSignedMessage context spec written
    × ((fault : SignFault) → ¬ IsSignFault context spec fault))
    ⊎ ((fault : SignFault) × IsSignFault context spec fault)

-- a message that is signed without a fault is one, and can be verified
abbrev pub IsVerifiableWhereSigned : Type 0
IsVerifiableWhereSigned =
    (context : MessageContext) (spec : SignSpec) (bytes : List ℕ) (written : Message)
    → IsValidSpec spec → Spells (answers_head context.related) context.message bytes
    → IsSignedMessage context spec written
    → ((fault : SignFault) → ¬ IsSignFault context spec fault)
    → Spells (answers_head context.related) written (message_text written)
    × IsVerifiable context spec (message_text written)

-- ---- what a configuration asks for

-- it asks for at most one signature
abbrev pub HasOneSpec : Type 0
HasOneSpec =
    (conf : Configuration) (of_request : Bool) (now : ℕ) (nonce : Option (List ℕ))
    (spec other : SignSpec) → IsSpecOf conf of_request now nonce spec
    → IsSpecOf conf of_request now nonce other → spec ≡ other

-- one with the key of what is signed by asks for a signature
abbrev pub HasSpec : Type 0
HasSpec =
    (conf : Configuration) (sign : SignConf) (of_request : Bool) (now : ℕ)
    (nonce : Option (List ℕ)) → conf.sign ≡ Some sign → IsSome (map.get conf.keys sign.keyid)
    → (spec : SignSpec) × IsSpecOf conf of_request now nonce spec

-- what a valid one asks for can be signed
abbrev pub IsValidWhereAsked : Type 0
IsValidWhereAsked =
    (conf : Configuration) (of_request : Bool) (now : ℕ) (nonce : Option (List ℕ))
    (spec : SignSpec) → IsValid conf → now ≤ MAX_MOMENT
    → IfSome nonce (λ text. IsTrue (list_all is_string_byte text))
    → IsSpecOf conf of_request now nonce spec → IsValidSpec spec

-- ---- what a message wishes

-- it wishes at most one list of signatures
abbrev pub HasOneListOfSpecs : Type 0
HasOneListOfSpecs =
    (conf : Configuration) (now : ℕ) (message : Message) (specs others : List SignSpec)
    → AreWished conf now message specs → AreWished conf now message others → specs ≡ others

-- at most one fault is the first for which its wishes aren't met
abbrev pub HasOneWantFault : Type 0
HasOneWantFault =
    (conf : Configuration) (message : Message) (fault other : WantFault) → IsSome conf.sign
    → IsWantFault conf message fault → IsWantFault conf message other → fault ≡ other

-- its wishes are met without a fault, or a fault is the first for which they aren't
abbrev pub HasSpecsOrFault : Type 0
HasSpecsOrFault =
    (conf : Configuration) (now : ℕ) (message : Message) → IsSome conf.sign
    → ((specs : List SignSpec) × AreWished conf now message specs
    × ((fault : WantFault) → ¬ IsWantFault conf message fault))
    ⊎ ((fault : WantFault) × IsWantFault conf message fault)

-- what it wishes under a valid configuration can be signed
abbrev pub AreValidWhereWished : Type 0
AreValidWhereWished =
    (conf : Configuration) (now : ℕ) (message : Message) (specs : List SignSpec) → IsValid conf
    → now ≤ MAX_MOMENT → AreWished conf now message specs → All IsValidSpec specs

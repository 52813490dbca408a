-- What is signed can be verified (RFC 9421 sections 3.1 and 3.2).
use Rattle.std.specs.Prelude.{◌≡◌, ◌≤◌, ℕ, IsTrue, Option, None, Some, IfSome, IsSomeAnd, List}
use Rattle.std.specs.List.{Contains, list_all}
use Rattle.sfv_text.specs.Range.{is_string_byte}
use Rattle.sfv_text.specs.declared.pair.Pair.{Pair}
use Rattle.sfv_text.specs.declared.value.InnerList.{InnerList}
use Rattle.sfv_text.specs.declared.value.Member.{Member}
use Rattle.sfv_text.specs.declared.value.Member.TheVariants.{InnerList as InnerMember}
use Rattle.msg_body.specs.Messages.{Message, Spells}
use Rattle.component_ids.specs.declared.params.SigParams.{SigParams}
use Rattle.component_values.specs.Context.{MessageContext, answers_head, context_with}
use Rattle.nonces.specs.declared.limits.TheConstants.{MAX_MOMENT}
use Rattle.conf.specs.Configuration.{Configuration}
use Rattle.settings.specs.Valid.{IsValid}
use Rattle.settings.specs.declared.sign_conf.SignConf.{SignConf}
use Rattle.signatures.specs.Signatures.{HasDict, HasSignature}
use Rattle.signing.specs.Wishes.{wish_name, wished_keyid}
use Rattle.verdicts.specs.Laws.{IsRightlySigned}
use Rattle.commands.specs.Sign.{ReportsSigning}
use Rattle.verdicts.specs.Verification.{verification_for}
use Rattle.commands.specs.declared.outcome.Outcome.TheVariants.{Done}

-- One of the wishes is for a signature of this label by the key of this `keyid`.
pub record IsWishedAs (conf : Configuration) (wishes : Message) (label keyid : List ℕ)
    : Type 0 where
  pub list : List (Pair Member)
  pub dict : HasDict wishes wish_name list
  pub wish : Pair Member
  pub there : Contains list wish
  pub label_is : label ≡ wish.key
  pub sign : SignConf
  pub sign_is : conf.sign ≡ Some sign
  pub components : InnerList
  pub components_are : wish.value ≡ InnerMember components
  pub keyid_is : keyid ≡ wished_keyid sign components

-- A signature that is made has this label, and is made by the key of this `keyid`: the configured
-- ones, or those of a wish.
abbrev pub SignsAs : Configuration → Option Message → List ℕ → List ℕ → Type 0
SignsAs conf None label keyid =
    IsSomeAnd conf.sign (λ sign. (label ≡ sign.label) × (keyid ≡ sign.keyid))
SignsAs conf (Some wishes) label keyid = IsWishedAs conf wishes label keyid

-- What was written is one message, whose start line is that of the message that was signed.
abbrev pub IsMessageWhereSigned : Type 0
IsMessageWhereSigned =
    (nonce : Option (List ℕ)) (moment : ℕ) (conf : Configuration) (wishes : Option Message)
    (context : MessageContext) (bytes written : List ℕ) → IsValid conf → moment ≤ MAX_MOMENT
    → IfSome nonce (λ text. IsTrue (list_all is_string_byte text))
    → Spells (answers_head context.related) context.message bytes
    → ReportsSigning nonce moment conf wishes context (Done written)
    → (message : Message) × Spells (answers_head context.related) message written
    × (message.head.start ≡ context.message.head.start)

-- In the message that was written each label that was signed is rightly signed, with the same
-- related request, scheme and types, by the key that the configuration has for its `keyid`.
abbrev pub IsRightWhereSigned : Type 0
IsRightWhereSigned =
    (nonce : Option (List ℕ)) (moment : ℕ) (conf : Configuration) (wishes : Option Message)
    (context : MessageContext) (bytes written label keyid : List ℕ) (message : Message)
    → IsValid conf → moment ≤ MAX_MOMENT
    → IfSome nonce (λ text. IsTrue (list_all is_string_byte text))
    → Spells (answers_head context.related) context.message bytes
    → ReportsSigning nonce moment conf wishes context (Done written)
    → SignsAs conf wishes label keyid → Spells (answers_head context.related) message written
    → IsRightlySigned (verification_for conf moment (context_with context message) label) keyid

-- Each label that the message had before keeps its signature parameters and its tag in the message
-- that was written.
abbrev pub IsKeptWhereSigned : Type 0
IsKeptWhereSigned =
    (nonce : Option (List ℕ)) (moment : ℕ) (conf : Configuration) (wishes : Option Message)
    (context : MessageContext) (bytes written label : List ℕ) (params : SigParams)
    (tag : List ℕ) (message : Message) → IsValid conf → moment ≤ MAX_MOMENT
    → IfSome nonce (λ text. IsTrue (list_all is_string_byte text))
    → Spells (answers_head context.related) context.message bytes
    → ReportsSigning nonce moment conf wishes context (Done written)
    → Spells (answers_head context.related) message written
    → HasSignature context.message label params tag → HasSignature message label params tag

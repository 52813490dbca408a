-- A response that is signed as its request asks: with the signatures of the field
-- `Accept-Signature` (RFC 9421 section 5), and the digest of the field `Want-Content-Digest` (RFC
-- 9530 section 4).
use Rattle.std.specs.Prelude.{◌≡◌, ℕ, Option, Some, None, List, map}
use Rattle.msg_body.specs.Messages.{Message, Spells}
use Rattle.component_values.specs.Context.{MessageContext, answers_head}
use Rattle.content_digest.specs.declared.algorithm.Algorithm.{Algorithm}
use Rattle.settings.specs.Configuration.{Configuration}
use Rattle.signing.specs.Wishes.{AreWished}
use Rattle.signing.specs.declared.spec.SignSpec.{SignSpec}
use Rattle.negotiation.specs.Each.{IsSignedEach}
use Rattle.negotiation.specs.Preferences.{IsWishedDigest}

-- the signature, with the digest by the algorithm that is asked for, or else the configured one
abbrev pub with_digest_by : Option Algorithm → SignSpec → SignSpec
with_digest_by None spec = spec
with_digest_by (Some algorithm) spec = record {
  label = spec.label;
  params = spec.params;
  key = spec.key;
  digest = Some algorithm;
}

-- these are the signatures that the request wishes, with the digest that it asks for
pub record AreNegotiated (conf : Configuration) (now : ℕ) (request : Message)
    (specs : List SignSpec) : Type 0 where
  pub wished : List SignSpec
  pub are : AreWished conf now request wished
  pub digest : Option Algorithm
  pub digest_is : IsWishedDigest request digest
  pub specs_are : specs ≡ map (with_digest_by digest) wished

-- The message is the response with each signature that its request wishes. Of a response that
-- isn't signed, because a cause of `IsNegotiateFault` is against it, this may say it too.
pub record IsNegotiated (conf : Configuration) (now : ℕ) (context : MessageContext)
    (written : Message) : Type 0 where
  pub request : Message
  pub request_is : context.related ≡ Some request
  pub specs : List SignSpec
  pub specs_are : AreNegotiated conf now request specs
  pub signed : IsSignedEach context specs written

-- the text spells the response with each signature that its request wishes
abbrev pub SpellsNegotiated : Configuration → ℕ → MessageContext → List ℕ → Type 0
SpellsNegotiated conf now context text =
    (written : Message) × IsNegotiated conf now context written
    × Spells (answers_head context.related) written text

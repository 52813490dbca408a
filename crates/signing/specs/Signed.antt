-- The signed message (RFC 9421 sections 3.1 and 4), and that it can be verified (section 3.2).
use Rattle.std.specs.Prelude.{◌≡◌, ℕ, Bool, IsTrue, IsFalse, List, [], ◌∷◌, ◌++◌}
use Rattle.std.specs.List.{list_all, list_any}
use Rattle.msg_body.specs.Messages.{Message, Spells, message_text}
use Rattle.component_ids.specs.Identifiers.{is_identifier, item_of}
use Rattle.component_ids.specs.declared.id.ComponentId.{ComponentId}
use Rattle.component_ids.specs.declared.params.SigParams.{SigParams}
use Rattle.component_values.specs.Context.{MessageContext, answers_head, context_with}
use Rattle.component_values.specs.Values.{HaveValues}
use Rattle.signatures.specs.SignatureBase.{signature_base}
use Rattle.hmac_sha256.specs.Hmac.{hmac}
use Rattle.signatures.specs.Signatures.{HasSignature, AreLabels}
use Rattle.signing.specs.SignCauses.{covers_signatures}
use Rattle.signing.specs.Written.{context_with_digest, digest_lines, signed_message}
use Rattle.signing.specs.declared.spec.SignSpec.{SignSpec}

-- the message has a signature, of whatever label
abbrev pub HasSomeSignature : Message → Type 0
HasSomeSignature message = (label : List ℕ) × (params : SigParams) × (tag : List ℕ)
    × HasSignature message label params tag

-- The text is the message, after its header lines the line of its digest and those of the
-- signature. The tag is the HMAC of the signature base over the values that the components have in
-- the message with the line of its digest (section 3.3.3). Of a message that isn't signed, because
-- a cause of `IsSignFault` is against it, this says what would be written.
pub record IsSigned (context : MessageContext) (spec : SignSpec) (text : List ℕ) : Type 0 where
  pub values : List (List ℕ)
  pub have : HaveValues (context_with_digest context spec.digest) spec.params.ids values
  pub text_is : text ≡ message_text (signed_message context.message spec
      (hmac spec.key (signature_base spec.params values)))

-- The message is the signed one: after its header lines the line of its digest and those of the
-- signature, with the same tag. Of one that isn't signed it says the same.
pub record IsSignedMessage (context : MessageContext) (spec : SignSpec) (written : Message)
    : Type 0 where
  pub values : List (List ℕ)
  pub have : HaveValues (context_with_digest context spec.digest) spec.params.ids values
  pub written_is : written ≡ signed_message context.message spec
      (hmac spec.key (signature_base spec.params values))

-- the text spells the signed message
abbrev pub SpellsSigned : MessageContext → SignSpec → List ℕ → Type 0
SpellsSigned context spec text =
    (written : Message) × IsSignedMessage context spec written
    × Spells (answers_head context.related) written text

-- each of them is an identifier of a component
abbrev pub are_identifiers : List ComponentId → Bool
are_identifiers ids = list_all (λ id. is_identifier (item_of id)) ids

-- The text is that of a message that has the signature: it has the parameters that are asked for,
-- each component has its value in that message, and the tag is the HMAC of the signature base. The
-- signatures that were there are kept, and the new label comes after theirs. No component of it is
-- the whole of a field of signatures, and other such components keep their values. The digest's
-- line is there, where one is asked for.
pub record IsVerifiable (context : MessageContext) (spec : SignSpec) (text : List ℕ) : Type 0 where
  pub written : Message
  pub spells : Spells (answers_head context.related) written text
  pub tag : List ℕ
  pub signature : HasSignature written spec.label spec.params tag
  pub values : List (List ℕ)
  pub have : HaveValues (context_with context written) spec.params.ids values
  pub mac : tag ≡ hmac spec.key (signature_base spec.params values)
  pub kept : (label : List ℕ) (params : SigParams) (other : List ℕ)
      → HasSignature context.message label params other → HasSignature written label params other
  pub labels : (labels : List (List ℕ)) → AreLabels context.message labels
      → AreLabels written (labels ++ spec.label ∷ [])
  pub apart : IsFalse (list_any covers_signatures spec.params.ids)
  pub others : (ids : List ComponentId) (texts : List (List ℕ)) → IsTrue (are_identifiers ids)
      → IsFalse (list_any covers_signatures ids)
      → HaveValues (context_with_digest context spec.digest) ids texts
      → HaveValues (context_with context written) ids texts
  pub digested : digest_lines written spec.digest ≡ []

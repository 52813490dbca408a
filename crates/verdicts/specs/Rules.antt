-- The rules that a label is judged by, as a table: a rule fails so, with this place, exactly where
-- its row holds (RFC 9421 section 3.2). A row that speaks of what an earlier failure leaves
-- undefined holds only where the earlier rule doesn't fail.
use Rattle.std.specs.Prelude.{◌≡◌, ◌<◌, ◌<ℤ◌, ℕ, pos, Bool, IsTrue, IsFalse, Option, Some, None, List, length, ◌∷◌, slice_get, IsSomeAnd}
use Rattle.std.specs.FinMap as map
use Rattle.sfv_text.specs.Strict.{string_text}
use Rattle.msg_body.specs.Views.{message_content}
use Rattle.component_ids.specs.Table.{is_listed}
use Rattle.component_ids.specs.declared.params.SigParams.{SigParams}
use Rattle.component_ids.specs.declared.id.ComponentId.{ComponentId}
use Rattle.derived_values.specs.declared.lack.Lack.{Lack}
use Rattle.derived_values.specs.declared.lack.Lack.TheVariants as lack
use Rattle.component_values.specs.Values.{HaveValues, IsFirstLack}
use Rattle.signatures.specs.SignatureBase.{signature_base}
use Rattle.hmac_sha256.specs.Hmac.{hmac}
use Rattle.settings.specs.Configuration.{Configuration}
use Rattle.settings.specs.declared.policy.Policy.{Policy}
use Rattle.settings.specs.declared.policy.NonceUse.TheVariants.{Require}
use Rattle.nonces.specs.declared.limits.TheConstants.{MAX_NONCE_BYTES}
use Rattle.verdicts.specs.Parameters.{created_of, expires_of, alg_of, keyid_of, nonce_of, tag_param_of}
use Rattle.verdicts.specs.Policies.{required_of, IsFirstUncovered, IsAhead, IsTooOld, asks_new, IsReplay, LacksRoom}
use Rattle.verdicts.specs.Choice.{policy_of}
use Rattle.verdicts.specs.Verification.{Verification}
use Rattle.signatures.specs.declared.rule.Rule.{Rule}
use Rattle.signatures.specs.declared.rule.Rule.TheVariants.{AlgRefused, AlgUnknown, KeyidAbsent, KeyUnknown, ComponentRequired, CreatedAbsent, CreatedAhead, TooOld, ExpiresAbsent, Expired, TagWrong, NonceAbsent, NonceRepeated, NonceLong, Absent, Ambiguous, Underivable, Unreadable, NotAscii, MacMismatch, Digest, NoncesFull}
use Rattle.signatures.specs.declared.place.DigestReason.{DigestReason}
use Rattle.signatures.specs.declared.place.Place.{Place}
use Rattle.signatures.specs.declared.place.Place.TheVariants.{None as Nowhere, Name, Identifier, Digest as DigestPlace}
use Rattle.verdicts.specs.ContentDigest.{asks_digest, LacksDigest}
use Rattle.signatures.specs.Algorithms.{supported_algorithm, refused_algorithms}
use Rattle.signatures.specs.Signatures.{HasSignature}
use Rattle.signatures.specs.Rules.{FailsToRead}

-- the key that is configured for the `keyid`
abbrev pub key_in : Configuration → List ℕ → Option (List ℕ)
key_in conf keyid = map.get conf.keys keyid

-- the message has a signature of the label, so that rules 1 to 12 hold, and the fact holds of it
abbrev pub OfSignature : Verification → (SigParams → List ℕ → Type 0) → Type 0
OfSignature v Fact =
    (params : SigParams) × (tag : List ℕ)
    × HasSignature v.context.message v.label params tag × Fact params tag

-- the first component that lacks a value lacks it in this way; the place is its identifier
abbrev pub FailsByLack : Verification → Lack → Place → Type 0
FailsByLack v lack place =
    OfSignature v (λ params tag. (index : ℕ) × IsFirstLack v.context params.ids index lack
    × IsSomeAnd (slice_get params.ids index) (λ id. place ≡ Identifier id))

-- the fact holds of its parameters, and of the policy by which they are judged; where there is no
-- such policy, it doesn't
abbrev pub OfPolicy : Verification → (Policy → SigParams → Type 0) → Type 0
OfPolicy v Fact =
    OfSignature v (λ params tag.
    IsSomeAnd (policy_of v.conf params) (λ policy. Fact policy params))

-- there is no policy for signatures with this tag, or with none; or the policy asks for another
abbrev pub IsWrongTag : Option Policy → Option (List ℕ) → Type 0
IsWrongTag None own = Unit {0}
IsWrongTag (Some policy) own = IsSomeAnd policy.tag (λ tag. ¬ (own ≡ Some tag))

-- the policy asks for the digest of the content
abbrev pub asks_digest_of : Verification → Policy → Bool
asks_digest_of v policy = asks_digest policy.digest (message_content v.context.message)

-- another text than the HMAC of the signature base under the label's key (RFC 9421 section 3.3.3)
pub record IsNoMac (v : Verification) (params : SigParams) (tag : List ℕ) : Type 0 where
  pub keyid : List ℕ
  pub keyid_is : keyid_of params ≡ Some keyid
  pub key : List ℕ
  pub key_is : key_in v.conf keyid ≡ Some key
  pub values : List (List ℕ)
  pub have : HaveValues v.context params.ids values
  pub other : ¬ (tag ≡ hmac key (signature_base params values))

-- the rows of rules 13 to 34; the rows of rules 1 to 12 are those of reading
abbrev pub Fails : Verification → Rule → Place → Type 0
Fails v AlgRefused place =
    OfSignature v (λ params tag. IsSomeAnd (alg_of params) (λ alg.
    IsTrue (is_listed refused_algorithms alg) × (place ≡ Name alg)))
Fails v AlgUnknown place =
    OfSignature v (λ params tag. IsSomeAnd (alg_of params) (λ alg.
    IsFalse (is_listed (supported_algorithm ∷ refused_algorithms) alg)
    × (place ≡ Name (string_text alg))))
Fails v KeyidAbsent place =
    (place ≡ Nowhere) × OfSignature v (λ params tag. keyid_of params ≡ None)
Fails v KeyUnknown place =
    (place ≡ Nowhere) × OfSignature v (λ params tag.
    IsSomeAnd (keyid_of params) (λ keyid. key_in v.conf keyid ≡ None))
Fails v ComponentRequired place =
    OfPolicy v (λ policy params. (id : ComponentId) × (place ≡ Identifier id)
    × IsFirstUncovered params.ids (required_of v policy) id)
Fails v CreatedAbsent place =
    (place ≡ Nowhere) × OfPolicy v (λ policy params. created_of params ≡ None)
Fails v CreatedAhead place =
    (place ≡ Nowhere) × OfPolicy v (λ policy params.
    IsSomeAnd (created_of params) (IsAhead policy v.now))
Fails v TooOld place =
    (place ≡ Nowhere) × OfPolicy v (λ policy params.
    IsSomeAnd (created_of params) (IsTooOld policy v.now))
Fails v ExpiresAbsent place =
    (place ≡ Nowhere) × OfPolicy v (λ policy params.
    IsTrue policy.expires × (expires_of params ≡ None))
Fails v Expired place =
    (place ≡ Nowhere) × OfPolicy v (λ policy params.
    IsSomeAnd (expires_of params) (λ expires. expires <ℤ pos v.now))
Fails v TagWrong place =
    (place ≡ Nowhere) × OfSignature v (λ params tag.
    IsWrongTag (policy_of v.conf params) (tag_param_of params))
Fails v NonceAbsent place =
    (place ≡ Nowhere) × OfPolicy v (λ policy params.
    (policy.nonce ≡ Require) × (nonce_of params ≡ None))
Fails v NonceRepeated place =
    (place ≡ Nowhere) × OfPolicy v (λ policy params.
    IsTrue (asks_new policy.nonce) × IsSomeAnd (nonce_of params) (IsReplay v params))
Fails v NonceLong place =
    (place ≡ Nowhere) × OfPolicy v (λ policy params. IsTrue (asks_new policy.nonce)
    × IsSomeAnd (nonce_of params) (λ nonce. MAX_NONCE_BYTES < length nonce))
Fails v Absent place = FailsByLack v lack.Absent place
Fails v Ambiguous place = FailsByLack v lack.Ambiguous place
Fails v Underivable place = FailsByLack v lack.Underivable place
Fails v Unreadable place = FailsByLack v lack.Unreadable place
Fails v NotAscii place = FailsByLack v lack.NotAscii place
Fails v MacMismatch place = (place ≡ Nowhere) × OfSignature v (IsNoMac v)
Fails v Digest place =
    (reason : DigestReason) × (place ≡ DigestPlace reason) × OfPolicy v (λ policy params.
    IsTrue (asks_digest_of v policy) × LacksDigest v.context.message params.ids reason)
Fails v NoncesFull place = (place ≡ Nowhere) × OfPolicy v (LacksRoom v.now v.seen)
Fails v rule place = FailsToRead v.context.message v.label rule place

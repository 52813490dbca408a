-- What is known of the tag of a label before its verdict.
use Rattle.std.specs.Prelude.{◌≡◌, ◌↔◌, ⊤, ℕ, Bool, IsTrue, Option, Some, None, List}
use Rattle.component_ids.specs.declared.params.SigParams.{SigParams}
use Rattle.component_values.specs.Context.{MessageContext}
use Rattle.component_values.specs.Values.{HaveValues}
use Rattle.hmac_sha256.specs.Hmac.{hmac}
use Rattle.settings.specs.Configuration.{Configuration}
use Rattle.signatures.specs.SignatureBase.{signature_base}
use Rattle.signatures.specs.Signatures.{HasSignature}
use Rattle.verdicts.specs.Parameters.{keyid_of}
use Rattle.verdicts.specs.Rules.{key_in}

-- each component has its value, and the tag is the HMAC of the signature base under the key, or it
-- isn't (RFC 9421 section 3.3.3)
abbrev pub IsRightOrNot : MessageContext → SigParams → List ℕ → List ℕ → Bool → Type 0
IsRightOrNot context params tag key is_right = (values : List (List ℕ))
    × HaveValues context params.ids values
    × (IsTrue is_right ↔ (tag ≡ hmac key (signature_base params values)))

-- where it is known, it is so
abbrev pub IsKnownOf : MessageContext → SigParams → List ℕ → List ℕ → Option Bool → Type 0
IsKnownOf context params tag key None = ⊤
IsKnownOf context params tag key (Some is_right) = IsRightOrNot context params tag key is_right

-- the message has the label's signature, of which it is so under the key that is configured for its
-- `keyid`
pub record HasKnownTag (conf : Configuration) (context : MessageContext) (label : List ℕ)
    (is_right : Bool) : Type 0 where
  pub params : SigParams
  pub tag : List ℕ
  pub signature : HasSignature context.message label params tag
  pub keyid : List ℕ
  pub keyid_is : keyid_of params ≡ Some keyid
  pub key : List ℕ
  pub key_is : key_in conf keyid ≡ Some key
  pub is : IsRightOrNot context params tag key is_right

-- where it is known of the label, it is so
abbrev pub KnowsTag : Configuration → MessageContext → List ℕ → Option Bool → Type 0
KnowsTag conf context label None = ⊤
KnowsTag conf context label (Some is_right) = HasKnownTag conf context label is_right

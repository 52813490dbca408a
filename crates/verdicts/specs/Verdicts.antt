-- The verdict on a label (RFC 9421 section 3.2).
use Rattle.std.specs.Prelude.{◌≡◌, ℕ, Bool, true, false, IsTrue, Some, IfSome, List}
use Rattle.component_ids.specs.Identifiers.{is_id_in_range}
use Rattle.component_ids.specs.declared.params.SigParams.{SigParams}
use Rattle.component_values.specs.Values.{HaveValues}
use Rattle.signatures.specs.SignatureBase.{signature_base}
use Rattle.hmac_sha256.specs.Hmac.{hmac}
use Rattle.settings.specs.declared.policy.Policy.{Policy}
use Rattle.verdicts.specs.Parameters.{alg_of, keyid_of}
use Rattle.verdicts.specs.Policies.{AcceptsByPolicy, HasRoom}
use Rattle.verdicts.specs.declared.outcome.Verdict.{Verdict}
use Rattle.verdicts.specs.declared.outcome.Verdict.TheVariants.{Ok as Accepted, Rule as Refused}
use Rattle.signatures.specs.declared.place.Place.{Place}
use Rattle.signatures.specs.declared.place.Place.TheVariants.{Identifier}
use Rattle.verdicts.specs.ContentDigest.{HasDigest}
use Rattle.signatures.specs.Signatures.{HasSignature}
use Rattle.signatures.specs.Rules.{IsFirstFailure}
use Rattle.verdicts.specs.Choice.{policy_of}
use Rattle.verdicts.specs.Verification.{Verification}
use Rattle.signatures.specs.Algorithms.{supported_algorithm}
use Rattle.verdicts.specs.Rules.{key_in, asks_digest_of, Fails}

-- The label is accepted: the message has its signature, made by the supported algorithm with the
-- key that `keyid` names, which the policy that is for its parameter `tag` accepts at this moment;
-- each covered component has its value, and the tag is the HMAC of the signature base; the digest
-- of the content is covered and right, where it is asked for, and there is room for the nonce.
pub record Accepts (v : Verification) (keyid : List ℕ) : Type 0 where
  pub params : SigParams
  pub tag : List ℕ
  pub signature : HasSignature v.context.message v.label params tag
  pub alg : IfSome (alg_of params) (λ alg. alg ≡ supported_algorithm)
  pub keyid_is : keyid_of params ≡ Some keyid
  pub key : List ℕ
  pub key_is : key_in v.conf keyid ≡ Some key
  pub policy : Policy
  pub chosen : policy_of v.conf params ≡ Some policy
  pub accepted : AcceptsByPolicy v policy params
  pub values : List (List ℕ)
  pub have : HaveValues v.context params.ids values
  pub mac : tag ≡ hmac key (signature_base params values)
  pub digest : IsTrue (asks_digest_of v policy) → HasDigest v.context.message params.ids
  pub room : HasRoom v.now v.seen policy params

-- accepted, with its `keyid`, or the first rule that fails, with its place
abbrev pub IsVerdict : Verification → Verdict → Type 0
IsVerdict v (Accepted keyid) = Accepts v keyid
IsVerdict v (Refused rule place) = IsFirstFailure (Fails v) rule place

-- the verdict is `ok`
abbrev pub is_accepted : Verdict → Bool
is_accepted (Accepted keyid) = true
is_accepted (Refused rule place) = false

-- a component at which a rule fails can be written as a structured field
abbrev pub is_place_in_range : Place → Bool
is_place_in_range (Identifier id) = is_id_in_range id
is_place_in_range place = true

-- the place of a verdict can be written as a structured field, where it is a component
abbrev pub is_verdict_in_range : Verdict → Bool
is_verdict_in_range (Accepted keyid) = true
is_verdict_in_range (Refused rule place) = is_place_in_range place

-- What a configuration asks to be signed (RFC 9421 section 2.3).
use Rattle.std.specs.Prelude.{◌≡◌, ℕ, ◌+◌, pos, min, Bool, Option, Some, None, option_map, List, [], ◌∷◌, ◌++◌, codes, if◌then◌else◌}
use Rattle.std.specs.FinMap as map
use Rattle.sfv_text.specs.declared.pair.Pair.{Pair}
use Rattle.sfv_text.specs.declared.value.BareItem.{BareItem}
use Rattle.sfv_text.specs.declared.value.BareItem.TheVariants.{Integer, Str}
use Rattle.component_ids.specs.declared.id.ComponentId.{ComponentId}
use Rattle.content_digest.specs.declared.algorithm.Algorithm.{Algorithm}
use Rattle.content_digest.specs.declared.algorithm.Algorithm.TheVariants as algorithm
use Rattle.nonces.specs.declared.limits.TheConstants.{MAX_MOMENT}
use Rattle.settings.specs.Configuration.{Configuration}
use Rattle.settings.specs.declared.sign_conf.SignConf.{SignConf}
use Rattle.settings.specs.declared.sign_conf.SignDigest.{SignDigest}
use Rattle.settings.specs.declared.sign_conf.SignDigest.TheVariants.{No, Sha256, Sha512}
use Rattle.signatures.specs.Algorithms.{supported_algorithm}
use Rattle.signing.specs.declared.spec.SignSpec.{SignSpec}

-- ---- parameters

-- the moment as an Integer, in seconds since the epoch
abbrev pub moment_item : ℕ → BareItem
moment_item moment = Integer (pos moment)

-- the last moment of a signature that is made now and expires so many seconds later, or the
-- greatest moment
abbrev pub expires_at : ℕ → ℕ → ℕ
expires_at now after = min (now + after) MAX_MOMENT

-- a parameter of the key, where there is a value for it
abbrev pub given : {T : Type 0} → List ℕ → (T → BareItem) → Option T → List (Pair BareItem)
given key item_of None = []
given key item_of (Some value) = record { key = key; value = item_of value } ∷ []

-- `created`, and then `expires`, `nonce`, `alg`, `keyid` and `tag`, those that are asked for
abbrev pub asked_params : SignConf → ℕ → Option (List ℕ) → List (Pair BareItem)
asked_params sign now nonce =
    given (codes "created") moment_item (Some now)
    ++ (given (codes "expires") moment_item (option_map (expires_at now) sign.expires_after)
    ++ (given (codes "nonce") Str nonce
    ++ (given (codes "alg") Str (if sign.alg then Some supported_algorithm else None)
    ++ (given (codes "keyid") Str (Some sign.keyid) ++ given (codes "tag") Str sign.tag))))

-- ---- what is to be signed

-- the components that are covered in a request, or in a response
abbrev pub covered_ids : SignConf → Bool → List ComponentId
covered_ids sign of_request =
    if of_request then sign.components_request else sign.components_response

-- the algorithm of the digest that is added, where one is (RFC 9530 section 2)
abbrev pub digest_algorithm : SignDigest → Option Algorithm
digest_algorithm No = None
digest_algorithm Sha256 = Some algorithm.Sha256
digest_algorithm Sha512 = Some algorithm.Sha512

-- this is what the configuration asks for at the moment, with this nonce where there is one
pub record IsSpecOf (conf : Configuration) (of_request : Bool) (now : ℕ) (nonce : Option (List ℕ))
    (spec : SignSpec) : Type 0 where
  pub sign : SignConf
  pub sign_is : conf.sign ≡ Some sign
  pub label : spec.label ≡ sign.label
  pub ids : spec.params.ids ≡ covered_ids sign of_request
  pub params : spec.params.params ≡ asked_params sign now nonce
  pub key : map.get conf.keys sign.keyid ≡ Some spec.key
  pub digest : spec.digest ≡ digest_algorithm sign.digest

-- What holds of every configuration.
use Rattle.std.specs.Prelude.{◌≡◌, ◌≤◌, ℕ, Some, IsSome, IsTrue, List}
use Rattle.std.specs.FinMap as map
use Rattle.std.specs.Option.{ForSome}
use Rattle.std.specs.List.{list_all}
use Rattle.sfv_text.specs.Range.{is_string_byte, is_key}
use Rattle.settings.specs.Keys.{IsHmacKey, is_keyid}
use Rattle.settings.specs.declared.sign_conf.SignConf.{SignConf}
use Rattle.settings.specs.ValidSections.{AreValidComponents, AreValidSeconds, IsValidGateway}
use Rattle.settings.specs.ValidPolicies.{AreValidPolicies}
use Rattle.nonces.specs.declared.limits.TheConstants.{MAX_ENTRIES}
use Rattle.settings.specs.Configuration.{Configuration}
use Rattle.settings.specs.Keys.{KeyMap}

-- the label is a key of a Dictionary, the keyid has a key, and so on
pub record IsValidSign (keys : KeyMap) (sign : SignConf) : Type 0 where
  pub label : IsTrue (is_key sign.label)
  pub keyid : IsSome (map.get keys sign.keyid)
  pub components_request : AreValidComponents sign.components_request
  pub components_response : AreValidComponents sign.components_response
  pub expires_after : ForSome sign.expires_after AreValidSeconds
  pub tag : ForSome sign.tag (λ tag. IsTrue (list_all is_string_byte tag))

-- keyids and keys have their lengths and bytes, and what is judged and signed by is valid
pub record IsValid (conf : Configuration) : Type 0 where
  pub keyids : (keyid key : List ℕ) → map.get conf.keys keyid ≡ Some key → IsTrue (is_keyid keyid)
  pub keys : (keyid key : List ℕ) → map.get conf.keys keyid ≡ Some key → IsHmacKey key
  pub policies : AreValidPolicies conf.policies
  pub least_nonces : 1 ≤ conf.nonces
  pub most_nonces : conf.nonces ≤ MAX_ENTRIES
  pub sign : ForSome conf.sign (IsValidSign conf.keys)
  pub gateway : ForSome conf.gateway IsValidGateway

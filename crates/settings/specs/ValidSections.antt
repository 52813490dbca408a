-- What holds of every policy, of what messages are signed by, and of what a gateway does.
use Rattle.std.specs.Prelude.{◌≤◌, ◌+◌, ◌*◌, ℕ, IsTrue, List, length}
use Rattle.std.specs.Option.{ForSome}
use Rattle.std.specs.List.{list_all}
use Rattle.sfv_text.specs.Range.{is_key, is_string_byte}
use Rattle.component_ids.specs.declared.id.ComponentId.{ComponentId}
use Rattle.component_ids.specs.Identifiers.{is_id_in_range}
use Rattle.component_ids.specs.SignatureParams.{IsSigParams}
use Rattle.nonces.specs.declared.limits.TheConstants.{MAX_WINDOW}
use Rattle.rewrite_script.specs.Lines.{is_writable}
use Rattle.rewrite_script.specs.Scripts.{HaveValues}
use Rattle.rewrite_script.specs.declared.limits.TheConstants.{MAX_SCRIPT_LINES}
use Rattle.settings.specs.declared.limits.TheConstants.{MAX_AGE, MAX_EXPIRES_AFTER, MAX_SKEW}
use Rattle.settings.specs.Covered.{params_of}
use Rattle.settings.specs.declared.gateway_conf.GatewayConf.{GatewayConf}
use Rattle.settings.specs.declared.policy.Policy.{Policy}

-- components that signature parameters can cover, with values that a structured field can hold
pub record AreValidComponents (ids : List ComponentId) : Type 0 where
  pub components : IsSigParams (params_of ids)
  pub in_range : IsTrue (list_all is_id_in_range ids)

-- from 1 second to a day
pub record AreValidSeconds (seconds : ℕ) : Type 0 where
  pub some : 1 ≤ seconds
  pub few : seconds ≤ MAX_EXPIRES_AFTER

-- seconds are in their ranges, and the window of nonces is at most a week
pub record IsValidPolicy (policy : Policy) : Type 0 where
  pub least_age : 1 ≤ policy.max_age
  pub most_age : policy.max_age ≤ MAX_AGE
  pub most_skew : policy.skew ≤ MAX_SKEW
  pub window : policy.max_age + 2 * policy.skew ≤ MAX_WINDOW
  pub require_request : AreValidComponents policy.require_request
  pub require_response : AreValidComponents policy.require_response
  pub selects : ForSome policy.selects (λ tag. IsTrue (list_all is_string_byte tag))
  pub tag : ForSome policy.tag (λ tag. IsTrue (list_all is_string_byte tag))

-- the label is a key of a Dictionary, and the steps are those of a script
pub record IsValidGateway (gateway : GatewayConf) : Type 0 where
  pub label : ForSome gateway.label (λ label. IsTrue (is_key label))
  pub writable : IsTrue (list_all is_writable gateway.steps)
  pub values : HaveValues gateway.steps
  pub few : length gateway.steps ≤ MAX_SCRIPT_LINES

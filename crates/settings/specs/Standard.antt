-- What holds where a configuration says nothing.
use Rattle.std.specs.Prelude.{false, None, [], ◌∷◌}
use Rattle.std.specs.FinMap as map
use Rattle.nonces.specs.declared.limits.TheConstants.{MAX_ENTRIES}
use Rattle.component_ids.specs.Types.{standard_types}
use Rattle.component_ids.specs.declared.scheme.Scheme.TheVariants.{Https}
use Rattle.settings.specs.declared.limits.TheConstants.{DEFAULT_MAX_AGE, DEFAULT_SKEW}
use Rattle.settings.specs.declared.policy.Policy.{Policy}
use Rattle.settings.specs.declared.policy.NonceUse.TheVariants as nonce
use Rattle.settings.specs.declared.policy.DigestUse.TheVariants as digest
use Rattle.settings.specs.Configuration.{Configuration}

-- the policy where nothing is said
abbrev pub standard_policy : Policy
standard_policy =
    record {
      selects = None;
      max_age = DEFAULT_MAX_AGE;
      skew = DEFAULT_SKEW;
      require_request = [];
      require_response = [];
      expires = false;
      nonce = nonce.Ignore;
      tag = None;
      digest = digest.Ignore;
    }

-- the configuration where nothing is said
abbrev pub standard_configuration : Configuration
standard_configuration =
    record {
      scheme = Https;
      keys = map.empty;
      types = standard_types;
      policies = standard_policy ∷ [];
      nonces = MAX_ENTRIES;
      sign = None;
      gateway = None;
    }

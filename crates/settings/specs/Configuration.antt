-- What a configuration is, apart from its text: nothing here names TOML.
use Rattle.std.specs.Prelude.{ℕ, Option, List}
use Rattle.component_ids.specs.Types.{KindMap}
use Rattle.component_ids.specs.declared.scheme.Scheme.{Scheme}
use Rattle.settings.specs.declared.gateway_conf.GatewayConf.{GatewayConf}
use Rattle.settings.specs.declared.policy.Policy.{Policy}
use Rattle.settings.specs.declared.sign_conf.SignConf.{SignConf}
use Rattle.settings.specs.Keys.{KeyMap}

-- a configuration
pub record Configuration : Type 0 where
  pub scheme : Scheme
  pub keys : KeyMap
  pub types : KindMap
  pub policies : List Policy
  pub nonces : ℕ
  pub sign : Option SignConf
  pub gateway : Option GatewayConf

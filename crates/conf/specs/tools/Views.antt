-- What the code's references to tables stand for. No public clause cites this module.
use Rattle.std.specs.Prelude.{◌≡◌, is_some, option_and_then, option_map, codes}
use Rattle.toml.specs.Data.{as_array, get_member}
use Rattle.toml.specs.View.{array_view, table_view}
use Rattle.conf_values.specs.Views.{table_members}
use Rattle.conf.specs.declared.members.FixedTables.{FixedTables}
use Rattle.conf_values.specs.declared.table.TableName.TheVariants.{Gateway, Policy, Sign}
use Rattle.conf.specs.Table.{has_place, members_at, version_in}

-- the tables are those of the document
pub record AreTables (tables : FixedTables) : Type 0 where
  pub version : tables.version ≡ version_in (table_view tables.document.now)
  pub policies :
      option_map (λ array. array_view array.now) tables.policies
      ≡ option_and_then as_array (get_member (codes "policies") (table_view tables.document.now))
  pub gateway :
      table_members tables.gateway ≡ members_at (table_view tables.document.now) Gateway
  pub has_gateway :
      is_some tables.gateway ≡ has_place (table_view tables.document.now) Gateway
  pub policy :
      table_members tables.policy ≡ members_at (table_view tables.document.now) Policy
  pub has_policy : is_some tables.policy ≡ has_place (table_view tables.document.now) Policy
  pub sign : table_members tables.sign ≡ members_at (table_view tables.document.now) Sign
  pub has_sign : is_some tables.sign ≡ has_place (table_view tables.document.now) Sign

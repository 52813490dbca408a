-- What the parts of the reader of tables answer. No public clause cites this module.
use Rattle.std.specs.Prelude.{◌≡◌, ◌⊎◌, ℕ, Option, Some, None, option_and_then, IsTrue, List, [], codes, ⊤}
use Rattle.std.specs.List.{AllByRecursion, Any}
use Rattle.toml.specs.Data.{Data, Members, string, as_str, get_member}
use Rattle.component_ids.specs.declared.id.ComponentId.{ComponentId}
use Rattle.conf_values.specs.declared.table.TableName.{TableName}
use Rattle.conf_values.specs.declared.table.TableName.TheVariants.{Policies, Policy, Sign}
use Rattle.conf_values.specs.declared.table.ValueRule.TheVariants as rule
use Rattle.conf.specs.Table.{HoldsOfValue, rows, row_value, members_at, tables_at, version_in, is_missing}
use Rattle.settings.specs.ReadList.{IsReadList}
use Rattle.conf.specs.Sections.{ArePolicies, HasGateway, HasSign}
use Rattle.conf.specs.declared.fault.ConfFault.{ConfFault}
use Rattle.conf.specs.declared.fault.ConfFault.TheVariants as fault
use Rattle.conf.specs.declared.lists.Lists.{Lists}
use Rattle.conf.specs.declared.sections.Sections.{Sections}
use Rattle.conf.specs.Paths.{HoldsOfNone}
use Rattle.conf.specs.Refusals.{HasBadStep, IsBadList}

-- the value at the place under the name
abbrev pub value_of : Members → TableName → List ℕ → Option Data
value_of document place name = get_member name (members_at document place)

-- the components that a value tells
abbrev pub IsToldList : Option Data → List ComponentId → Type 0
IsToldList (Some (string text)) ids = IsReadList text ids
IsToldList value ids = ids ≡ []

-- the value is a text that tells none
abbrev pub IsListFault : Option Data → List ℕ → ConfFault → Type 0
IsListFault value path fault.Memory = ⊤
IsListFault value path (fault.BadComponents given) =
    (given ≡ path) × IsBadList rule.Components value
IsListFault value path fault = ⊥

-- the value is no text that tells none
abbrev pub IsGoodList : Option Data → Type 0
IsGoodList value = ¬ IsBadList rule.Components value

-- the values of that name are such, in each of the tables
abbrev pub AreGoodLists : List ℕ → List Members → Type 0
AreGoodLists name tables =
    AllByRecursion (λ pairs. IsGoodList (get_member name pairs)) tables

-- the value of that name is a text that tells none, in one of the tables
abbrev pub IsListsFault : List ℕ → List Members → List ℕ → ConfFault → Type 0
IsListsFault name tables path fault.Memory = ⊤
IsListsFault name tables path (fault.BadComponents given) =
    (given ≡ path) × Any (λ pairs. IsBadList rule.Components (get_member name pairs)) tables
IsListsFault name tables path fault = ⊥

-- no table of `policies` has a bad list
pub record HaveGoodTables (document : Members) : Type 0 where
  pub request : AreGoodLists (codes "require-request") (tables_at document Policies)
  pub response : AreGoodLists (codes "require-response") (tables_at document Policies)

-- nor has the table `policy`
pub record HaveGoodLists (document : Members) : Type 0 where
  pub tables : HaveGoodTables document
  pub request : IsGoodList (value_of document Policy (codes "require-request"))
  pub response : IsGoodList (value_of document Policy (codes "require-response"))

-- the lists of the document that signing covers
pub record AreLists (document : Members) (lists : Lists) : Type 0 where
  pub components_request :
      IsToldList (value_of document Sign (codes "components-request")) lists.components_request
  pub components_response :
      IsToldList (value_of document Sign (codes "components-response")) lists.components_response

-- the table `sign` has no text for its label, or none for its keyid
abbrev pub LacksName : Members → Type 0
LacksName pairs =
    (option_and_then as_str (get_member (codes "label") pairs) ≡ None)
    ⊎ (option_and_then as_str (get_member (codes "keyid") pairs) ≡ None)

-- what the tables of the document say, where none of their lists and steps is bad and no key is
-- missing
pub record AreSections (document : Members) (sections : Sections) : Type 0 where
  pub lists : HoldsOfNone (λ row. HoldsOfValue (IsBadList row.rule) document row) rows
  pub steps : HoldsOfNone (λ row. HasBadStep row.rule (row_value document row)) rows
  pub complete : HoldsOfNone (λ row. IsTrue (is_missing document row)) rows
  pub policies : ArePolicies (version_in document) document sections.policies
  pub sign : HasSign (get_member (codes "sign") document) sections.sign
  pub gateway : HasGateway (get_member (codes "gateway") document) sections.gateway

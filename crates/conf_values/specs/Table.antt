-- The keys of a configuration: where each stands in a document, what is asked of its value, and
-- which versions have it.
use Rattle.std.specs.Prelude.{ℕ, Bool, true, false, ◌&&◌, Option, Some, None, List, [], ◌∷◌, codes}
use Rattle.std.specs.List.{list_any}
use Rattle.std.specs.Str.{bytes_eq}
use Rattle.conf_values.specs.declared.table.Row.{Row as CodeRow}
use Rattle.conf_values.specs.declared.table.TableName.{TableName}
use Rattle.conf_values.specs.declared.table.TableName.TheVariants.{Top, Gateway, Policies, Policy, Sign}
use Rattle.conf_values.specs.declared.table.ValueRule.{ValueRule}
use Rattle.conf_values.specs.declared.table.ValueRule.TheVariants.{Version as VersionRule, Scheme, Keys, Types, Table, Label, Keyid, Components, Seconds, Flag, Tag, Digest, MaxAge, LongMaxAge, Skew, Nonces, Expires, NonceUse, DigestUse, Steps, Policies as PolicyTables}
use Rattle.conf_values.specs.declared.table.Version.{Version}
use Rattle.conf_values.specs.declared.table.Version.TheVariants.{One, Two}

-- a key: its path, the table where it stands, its name there, what is asked of its value, whether
-- that table has to have it, and the version that has it, where not each has it
pub record Row : Type 0 where
  pub path : List ℕ
  pub place : TableName
  pub key : List ℕ
  pub rule : ValueRule
  pub required : Bool
  pub only : Option Version

-- a key of the document itself
abbrev pub at_top : List ℕ → ValueRule → Row
at_top key rule =
    record { path = key; place = Top; key = key; rule = rule; required = false; only = None }

-- a key of the document itself in one version
abbrev pub at_top_of : Version → List ℕ → ValueRule → Row
at_top_of version key rule =
    record {
      path = key;
      place = Top;
      key = key;
      rule = rule;
      required = false;
      only = Some version;
    }

-- a key of the table `gateway`
abbrev pub at_gateway : List ℕ → List ℕ → ValueRule → Row
at_gateway path key rule =
    record { path = path; place = Gateway; key = key; rule = rule; required = false; only = None }

-- a key of the tables of `policies`, which version 2 has
abbrev pub at_policies : List ℕ → List ℕ → ValueRule → Row
at_policies path key rule =
    record {
      path = path;
      place = Policies;
      key = key;
      rule = rule;
      required = false;
      only = Some Two;
    }

-- a key of the table `policy`, which version 1 has
abbrev pub at_policy : List ℕ → List ℕ → ValueRule → Row
at_policy path key rule =
    record {
      path = path;
      place = Policy;
      key = key;
      rule = rule;
      required = false;
      only = Some One;
    }

-- a key of the table `sign`
abbrev pub at_sign : List ℕ → List ℕ → ValueRule → Row
at_sign path key rule =
    record { path = path; place = Sign; key = key; rule = rule; required = false; only = None }

-- a key without which there is no table `sign`
abbrev pub needed_at_sign : List ℕ → List ℕ → ValueRule → Row
needed_at_sign path key rule =
    record { path = path; place = Sign; key = key; rule = rule; required = true; only = None }

-- the keys, in the order of their paths' bytes
unfoldable pub rows : List Row
rows =
    at_top (codes "gateway") Table
    ∷ at_gateway (codes "gateway.label") (codes "label") Label
    ∷ at_gateway (codes "gateway.steps") (codes "steps") Steps
    ∷ at_top (codes "keys") Keys
    ∷ at_top_of Two (codes "nonces") Nonces
    ∷ at_top_of Two (codes "policies") PolicyTables
    ∷ at_policies (codes "policies.digest") (codes "digest") DigestUse
    ∷ at_policies (codes "policies.expires") (codes "expires") Expires
    ∷ at_policies (codes "policies.max-age") (codes "max-age") LongMaxAge
    ∷ at_policies (codes "policies.nonce") (codes "nonce") NonceUse
    ∷ at_policies (codes "policies.require-request") (codes "require-request") Components
    ∷ at_policies (codes "policies.require-response") (codes "require-response") Components
    ∷ at_policies (codes "policies.skew") (codes "skew") Skew
    ∷ at_policies (codes "policies.tag") (codes "tag") Tag
    ∷ at_top_of One (codes "policy") Table
    ∷ at_policy (codes "policy.digest") (codes "digest") DigestUse
    ∷ at_policy (codes "policy.expires") (codes "expires") Expires
    ∷ at_policy (codes "policy.max-age") (codes "max-age") MaxAge
    ∷ at_policy (codes "policy.nonce") (codes "nonce") NonceUse
    ∷ at_policy (codes "policy.nonces") (codes "nonces") Nonces
    ∷ at_policy (codes "policy.require-request") (codes "require-request") Components
    ∷ at_policy (codes "policy.require-response") (codes "require-response") Components
    ∷ at_policy (codes "policy.skew") (codes "skew") Skew
    ∷ at_policy (codes "policy.tag") (codes "tag") Tag
    ∷ at_top (codes "scheme") Scheme
    ∷ at_top (codes "sign") Table
    ∷ at_sign (codes "sign.alg") (codes "alg") Flag
    ∷ at_sign (codes "sign.components-request") (codes "components-request") Components
    ∷ at_sign (codes "sign.components-response") (codes "components-response") Components
    ∷ at_sign (codes "sign.digest") (codes "digest") Digest
    ∷ at_sign (codes "sign.expires-after") (codes "expires-after") Seconds
    ∷ needed_at_sign (codes "sign.keyid") (codes "keyid") Keyid
    ∷ needed_at_sign (codes "sign.label") (codes "label") Label
    ∷ at_sign (codes "sign.tag") (codes "tag") Tag
    ∷ at_top (codes "types") Types
    ∷ at_top (codes "version") VersionRule
    ∷ []

-- the tables whose keys are fixed, in the order of their paths' bytes
unfoldable pub places : List TableName
places = Gateway ∷ Policies ∷ Policy ∷ Sign ∷ Top ∷ []

-- the path of a table in a refusal; that of the document itself is `top`
abbrev pub place_path : TableName → List ℕ
place_path Gateway = codes "gateway"
place_path Policies = codes "policies"
place_path Policy = codes "policy"
place_path Sign = codes "sign"
place_path Top = codes "top"

-- the two tables are one
abbrev pub is_same_place : TableName → TableName → Bool
is_same_place Gateway Gateway = true
is_same_place Policies Policies = true
is_same_place Policy Policy = true
is_same_place Sign Sign = true
is_same_place Top Top = true
is_same_place a b = false

-- ---- versions

-- the two versions are one
abbrev pub is_same_version : Version → Version → Bool
is_same_version One One = true
is_same_version Two Two = true
is_same_version a b = false

-- what only the first of the two has, if any, is known in a text of the second; where a text is of
-- no version, what any version has is known
abbrev pub is_in : Option Version → Option Version → Bool
is_in (Some only) (Some version) = is_same_version only version
is_in only version = true

-- the version that has the table, where not each has it
abbrev pub only_version : TableName → Option Version
only_version Policies = Some Two
only_version Policy = Some One
only_version place = None

-- a text of the version has the table
abbrev pub is_place_in : Option Version → TableName → Bool
is_place_in version place = is_in (only_version place) version

-- the row is that of the key of the table, in a text of the version
abbrev pub is_row_of : Option Version → TableName → List ℕ → Row → Bool
is_row_of version place name row =
    (is_in row.only version && is_same_place row.place place) && bytes_eq row.key name

-- the table has a key of that name, in a text of the version
abbrev pub is_table_key : Option Version → TableName → List ℕ → Bool
is_table_key version place name = list_any (is_row_of version place name) rows

-- a row of the code as one of the table
abbrev pub row_of : CodeRow → Row
row_of row =
    record {
      path = row.path.now;
      place = row.place;
      key = row.key.now;
      rule = row.rule;
      required = row.required;
      only = row.only;
    }

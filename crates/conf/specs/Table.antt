-- The keys of a configuration in a TOML document: their values, and those that are unknown or
-- missing.
use Rattle.std.specs.Prelude.{ℕ, pos, Bool, true, false, ◌&&◌, ◌==◌, not, Option, Some, None, is_some, is_none, option_and_then, List, [], ◌∷◌, codes, if◌then◌else◌}
use Rattle.std.specs.List.{Any, list_any}
use Rattle.toml.specs.Data.{Data, Members, no_members, integer, as_table, get_member}
use Rattle.conf_values.specs.declared.table.TableName.{TableName}
use Rattle.conf_values.specs.declared.table.TableName.TheVariants.{Top, Gateway, Policies, Policy, Sign}
use Rattle.conf_values.specs.declared.table.Version.{Version}
use Rattle.conf_values.specs.declared.table.Version.TheVariants.{One, Two}
pub use Rattle.conf_values.specs.Table.{Row, is_place_in, is_same_place, is_table_key, place_path}
pub use Rattle.conf_values.specs.Table.{at_gateway, at_policies, at_policy, at_sign, at_top}
unfoldable pub use Rattle.conf_values.specs.Table.{places, rows}
pub use Rattle.conf_values.specs.Parts.{entries_of, members_in, tables_in, tables_of, values_of}

-- ---- a document at its keys

-- the pairs that the document has in a table, none where it has no such table; `policies` is no
-- table, but an array of them
abbrev pub members_at : Members → TableName → Members
members_at document Top = document
members_at document Gateway = members_in (get_member (codes "gateway") document)
members_at document Policies = no_members
members_at document Policy = members_in (get_member (codes "policy") document)
members_at document Sign = members_in (get_member (codes "sign") document)

-- the pairs of each table that has these keys: of those of the array, or of the one
abbrev pub tables_at : Members → TableName → List Members
tables_at document Policies = tables_in (get_member (codes "policies") document)
tables_at document place = members_at document place ∷ []

-- the fact holds of the value of the key in one of its tables, or of its lack there
abbrev pub HoldsOfValue : (Option Data → Type 0) → Members → Row → Type 0
HoldsOfValue P document row =
    Any (λ pairs. P (get_member row.key pairs)) (tables_at document row.place)

-- the same as a test
abbrev pub is_true_of_value : (Option Data → Bool) → Members → Row → Bool
is_true_of_value test document row =
    list_any (λ pairs. test (get_member row.key pairs)) (tables_at document row.place)

-- the value of the key in the one table, where the document has it
abbrev pub row_value : Members → Row → Option Data
row_value document row = get_member row.key (members_at document row.place)

-- ---- the version of a document

-- the version of that number
abbrev pub version_of_number : ℕ → Option Version
version_of_number number =
    if number == 1 then Some One else if number == 2 then Some Two else None

-- the version that is named: the first where nothing is said, and none where it is another
abbrev pub version_of : Option Data → Option Version
version_of None = Some One
version_of (Some (integer (pos number))) = version_of_number number
version_of value = None

-- the version of a document
abbrev pub version_in : Members → Option Version
version_in document = version_of (get_member (codes "version") document)

-- ---- keys that are unknown, and keys that are missing

-- the pairs have a key that no table of the place has, in a text of the version
abbrev pub has_unknown_key : Option Version → TableName → Members → Bool
has_unknown_key version place pairs =
    list_any (λ entry. not (is_table_key version place entry.0)) (entries_of pairs)

-- a table of the document has such a key; tables that its version doesn't have aren't judged, since
-- their own names are unknown
abbrev pub has_unknown : Members → TableName → Bool
has_unknown document place =
    is_place_in (version_in document) place
    && list_any (has_unknown_key (version_in document) place) (tables_at document place)

-- the document has the table; `policies` is none
abbrev pub has_place : Members → TableName → Bool
has_place document Top = true
has_place document Gateway =
    is_some (option_and_then as_table (get_member (codes "gateway") document))
has_place document Policies = false
has_place document Policy =
    is_some (option_and_then as_table (get_member (codes "policy") document))
has_place document Sign = is_some (option_and_then as_table (get_member (codes "sign") document))

-- the document has the table without a key that it has to have
abbrev pub is_missing : Members → Row → Bool
is_missing document row =
    row.required && (has_place document row.place && is_none (row_value document row))

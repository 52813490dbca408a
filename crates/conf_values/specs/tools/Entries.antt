-- What is asked of each entry of a table. No public clause cites this module.
use Rattle.std.specs.Prelude.{ℕ, Bool, List, is_some}
use Rattle.toml.specs.Data.{Data, as_str}
use Rattle.settings.specs.Keys.{is_keyid}
use Rattle.conf_values.specs.Values.{is_type}
use Rattle.conf_values.specs.declared.entries.EntryTest.{EntryTest}
use Rattle.conf_values.specs.declared.entries.EntryTest.TheVariants.{HasText, HasKeyid, HasKind}

-- the entry, a key and its value, passes the test
abbrev pub passes : EntryTest → List ℕ × Data → Bool
passes HasText entry = is_some (as_str entry.1)
passes HasKeyid entry = is_keyid entry.0
passes HasKind entry = is_type entry.0 entry.1

use Rattle.std.proofs.Common.{◌≡◌}
use Rattle.std.specs.List.{list_all}
use Rattle.toml.specs.View.{table_view, members_view}
use Rattle.conf_values.specs.Parts.{entries_of}
use Rattle.conf_values.specs.tools.Entries.{passes}
use Rattle.conf_values.proofs.entries.are_entries.Given as goal

abbrev pub invariant-loop-key : goal.invariant-loop-key
invariant-loop-key l =
    list_all (passes l.test) (entries_of (table_view l.table)) ≡ list_all (passes l.test) (entries_of (members_view l.key-iterator))

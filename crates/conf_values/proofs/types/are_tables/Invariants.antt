use Rattle.std.proofs.Common.{◌≡◌, drop}
use Rattle.toml.specs.View.{items_view}
use Rattle.conf_values.specs.Values.{are_tables}
use Rattle.conf_values.proofs.types.are_tables.Given as goal

abbrev pub invariant-loop-value : goal.invariant-loop-value
invariant-loop-value l = are_tables (items_view (drop l.value-index l.value-items)) ≡ are_tables (items_view l.value-items)

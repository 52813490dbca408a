use Rattle.std.proofs.Common.{◌≡◌, drop}
use Rattle.std.specs.List.{list_any}
use Rattle.toml.specs.View.{items_view}
use Rattle.conf_values.specs.declared.table.TableName.TheVariants.{Policies}
use Rattle.conf.specs.Table.{has_unknown_key, tables_of}
use Rattle.conf.proofs.judge.has_unknown_policy_key.Given as goal

abbrev pub invariant-loop-value : goal.invariant-loop-value
invariant-loop-value l =
    list_any (has_unknown_key l.version Policies) (tables_of (items_view (drop l.value-index l.value-items)))
    ≡ list_any (has_unknown_key l.version Policies) (tables_of (items_view l.value-items))

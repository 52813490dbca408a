use Rattle.std.proofs.Common.{◌≡◌}
use Rattle.toml.specs.View.{table_view, members_view}
use Rattle.conf.specs.Table.{has_unknown_key}
use Rattle.conf.proofs.judge.has_unknown_in.Given as goal

abbrev pub invariant-loop-name : goal.invariant-loop-name
invariant-loop-name l =
    has_unknown_key l.version l.place (table_view l.table) ≡ has_unknown_key l.version l.place (members_view l.name-iterator)

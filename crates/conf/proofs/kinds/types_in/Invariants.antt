use Rattle.std.proofs.Common.{◌≡◌}
use Rattle.toml.specs.View.{table_view, members_view}
use Rattle.component_ids.specs.Types.{standard_types}
use Rattle.conf.specs.tools.Added.{all_added, named_kind}
use Rattle.conf.proofs.kinds.types_in.Given as goal

abbrev pub invariant-loop-name : goal.invariant-loop-name
invariant-loop-name l =
    all_added named_kind l.types (members_view l.name-iterator) ≡ all_added named_kind standard_types (table_view l.table)

use Rattle.std.proofs.Common.{◌≡◌, drop}
use Rattle.std.specs.List.{list_any}
use Rattle.toml.specs.Data.{get_member}
use Rattle.toml.specs.View.{items_view, table_view}
use Rattle.conf.specs.Rows.{fails}
use Rattle.conf.specs.Table.{tables_of}
use Rattle.conf.specs.tools.Judged.{passes_test}
use Rattle.conf.proofs.judge.fails_in_array.Given as goal

abbrev pub invariant-loop-value : goal.invariant-loop-value
invariant-loop-value l =
    list_any (λ pairs. fails (passes_test l.test (table_view l.document) l.row.rule) (get_member l.row.key.now pairs)) (tables_of (items_view (drop l.value-index l.value-items)))
    ≡ list_any (λ pairs. fails (passes_test l.test (table_view l.document) l.row.rule) (get_member l.row.key.now pairs)) (tables_of (items_view l.value-items))

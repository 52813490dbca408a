use Rattle.std.proofs.Common.{◌≡◌, drop, map}
use Rattle.toml.specs.View.{table_view}
use Rattle.conf.specs.tools.Judged.{first_path, is_refused}
use Rattle.conf_values.specs.Table.{row_of}
use Rattle.conf.proofs.judge.first_refused.Given as goal

abbrev pub invariant-loop-row : goal.invariant-loop-row
invariant-loop-row l =
    first_path (is_refused l.row_fault (table_view l.tables.document.now)) (map row_of l.rows) ≡ first_path (is_refused l.row_fault (table_view l.tables.document.now)) (map row_of (drop l.row-index l.rows))

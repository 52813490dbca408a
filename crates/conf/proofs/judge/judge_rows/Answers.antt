use Rattle.std.proofs.Common.{◌≡◌, Some, List, ℕ, ap, ◌∙◌}
use Rattle.toml.specs.View.{table_view}
use Rattle.conf.specs.Table.{Row, rows}
use Rattle.conf.specs.tools.Judged.{is_refused}
use Rattle.conf.proofs.LeastLaws.{found_none, found_least}
use Rattle.conf.proofs.RowLaws.{rows_ascend}
use Rattle.conf.proofs.JudgedLaws.{refused_is}
use Rattle.conf.proofs.judge.judge_rows.Goals as goal

pub returns-in-None-clause-ok : goal.returns-in-None-clause-ok
returns-in-None-clause-ok c =
    found_none (λ (row : Row). row.path) (is_refused c.args.row_fault (table_view c.args.tables.document.now)) rows (rw (c.in-None.is, c.rows.ensures) at c.first_refused.ensures)

pub returns-in_ok-from_bytes-in-Some-clause-err : goal.returns-in_ok-from_bytes-in-Some-clause-err
returns-in_ok-from_bytes-in-Some-clause-err c =
    let path_is : c.in_ok-from_bytes-in-Some.field-0 ≡ c.in-Some.path.now = c.in_ok-from_bytes-in-Some.ensures.ok ∙ c.as_bytes.ensures.value in
    let least = found_least (λ (row : Row). row.path) (is_refused c.args.row_fault (table_view c.args.tables.document.now)) rows c.in_ok-from_bytes-in-Some.field-0 rows_ascend
    (ap (λ (path : List ℕ). Some path) path_is ∙ rw (c.in-Some.is, c.rows.ensures) at c.first_refused.ensures) in
    rw c.fault_at.ensures (refused_is c.args.row_fault (table_view c.args.tables.document.now) c.in_ok-from_bytes-in-Some.field-0 least)

use Rattle.std.proofs.Common.{◌≡◌, drop, map}
use Rattle.std.specs.List.{list_any}
use Rattle.conf_values.specs.Table.{is_row_of, row_of}
use Rattle.conf_values.proofs.table.is_among.Given as goal

abbrev pub invariant-loop-row : goal.invariant-loop-row
invariant-loop-row l =
    list_any (is_row_of l.version l.place l.key) (map row_of l.rows)
    ≡ list_any (is_row_of l.version l.place l.key) (map row_of (drop l.row-index l.rows))

use Rattle.std.proofs.Common.{◌≡◌, drop}
use Rattle.toml.specs.View.{table_view}
use Rattle.conf.specs.Table.{has_unknown}
use Rattle.conf.specs.tools.Judged.{first_place}
use Rattle.conf.proofs.judge.first_unknown.Given as goal

abbrev pub invariant-loop-place : goal.invariant-loop-place
invariant-loop-place l =
    first_place (has_unknown (table_view l.tables.document.now)) l.places ≡ first_place (has_unknown (table_view l.tables.document.now)) (drop l.place-index l.places)

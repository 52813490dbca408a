use Rattle.std.proofs.Common.{◌≡◌, Some, List, ℕ, refl, ap, ◌∙◌}
use Rattle.toml.specs.View.{table_view}
use Rattle.conf.specs.Table.{has_unknown, places, place_path}
use Rattle.conf.proofs.LeastLaws.{found_none, found_least}
use Rattle.conf.proofs.RowLaws.{places_ascend}
use Rattle.conf.proofs.judge.judge_keys.Goals as goal

pub returns-in-None-clause-ok : goal.returns-in-None-clause-ok
returns-in-None-clause-ok c =
    found_none place_path (has_unknown (table_view c.args.tables.document.now)) places (rw (c.in-None.is, c.places.ensures) at c.first_unknown.ensures)

pub returns-in_ok-from_bytes-in-Some-clause-err : goal.returns-in_ok-from_bytes-in-Some-clause-err
returns-in_ok-from_bytes-in-Some-clause-err c =
    let path_is : c.in_ok-from_bytes-in-Some.field-0 ≡ c.in-Some.path.now = c.in_ok-from_bytes-in-Some.ensures.ok ∙ c.as_bytes.ensures.value in (
      refl,
      found_least place_path (has_unknown (table_view c.args.tables.document.now)) places c.in_ok-from_bytes-in-Some.field-0 places_ascend
          (ap (λ (path : List ℕ). Some path) path_is ∙ rw (c.in-Some.is, c.places.ensures) at c.first_unknown.ensures),
    )

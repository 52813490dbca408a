-- The paths of the table ascend.
use Rattle.std.proofs.Common.{◌≡◌, true, refl}
use Rattle.conf.specs.Table.{Row, rows, places, place_path}
use Rattle.conf.proofs.LeastLaws.{ascends}

pub rows_ascend : ascends (λ (row : Row). row.path) rows ≡ true
unfolding rows
rows_ascend = refl

pub places_ascend : ascends place_path places ≡ true
unfolding places
places_ascend = refl

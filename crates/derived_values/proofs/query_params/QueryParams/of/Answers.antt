use Rattle.std.proofs.Common.{ℕ, List, [], ◌∷◌, ◌++◌, append_assoc}
use Rattle.std.specs.Prelude.{map}
use Rattle.std.proofs.lemmas.List.{map-append}
use Rattle.derived_values.specs.Query.{decoded_pair}
use Rattle.derived_values.proofs.query_params.QueryParams.of.Goals as goal

pub loop-raw_name-preserved : goal.loop-raw_name-preserved
loop-raw_name-preserved c =
    let so_far = c.loop-raw_name.invariant in
    let raw : List ℕ × List ℕ = (c.in-Some.raw_name.now, c.in-Some.raw_value.now) in (
      so_far.0 ++ raw ∷ [],
      rw (append_assoc, ← c.in-Some.ensures.steps) so_far.1,
      rw map-append (c.in_ok-add_pair.ensures (map decoded_pair so_far.0) so_far.2),
    )

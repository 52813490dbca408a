use Rattle.std.proofs.Common.{◌≡◌, ℕ, List, ◌++◌}
use Rattle.std.specs.Prelude.{map}
use Rattle.form_urlencoded.specs.Form.{raw_pairs}
use Rattle.form_urlencoded.specs.Parse.{raw_pairs_left}
use Rattle.derived_values.specs.Query.{IsFound, decoded_pair, values_under}
use Rattle.derived_values.proofs.query.query_param.Given as goal

abbrev pub invariant-loop-raw_name : goal.invariant-loop-raw_name
invariant-loop-raw_name l =
    (done : List (List ℕ × List ℕ)) × (done ++ raw_pairs_left l.raw_name-iterator ≡ raw_pairs l.query)
    × IsFound (values_under l.name (map decoded_pair done)) l.found

use Rattle.std.proofs.Common.{◌≡◌, ℕ, List, ◌++◌}
use Rattle.std.specs.Prelude.{map}
use Rattle.form_urlencoded.specs.Form.{raw_pairs}
use Rattle.form_urlencoded.specs.Parse.{raw_pairs_left}
use Rattle.derived_values.specs.Query.{decoded_pair}
use Rattle.derived_values.specs.tools.Params.{AreListedIn}
use Rattle.derived_values.proofs.query_params.QueryParams.of.Given as goal

abbrev pub invariant-loop-raw_name : goal.invariant-loop-raw_name
invariant-loop-raw_name l =
    (done : List (List ℕ × List ℕ)) × (done ++ raw_pairs_left l.raw_name-iterator ≡ raw_pairs l.query)
    × AreListedIn l.places l.lists.items (map decoded_pair done)

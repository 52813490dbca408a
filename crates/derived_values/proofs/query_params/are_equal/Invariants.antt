use Rattle.std.proofs.Common.{◌≡◌, take}
use Rattle.derived_values.proofs.query_params.are_equal.Given as goal

abbrev pub invariant-loop-index : goal.invariant-loop-index
invariant-loop-index l = take l.index l.texts ≡ take l.index l.others

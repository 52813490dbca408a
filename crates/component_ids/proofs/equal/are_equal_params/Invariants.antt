use Rattle.std.proofs.Common.{◌≡◌, take}
use Rattle.component_ids.proofs.equal.are_equal_params.Given as goal

abbrev pub invariant-loop-index : goal.invariant-loop-index
invariant-loop-index l = take l.index l.params ≡ take l.index l.others

use Rattle.std.proofs.Common.{◌≡◌, take}
use Rattle.component_ids.proofs.equal.are_equal_ids.Given as goal

abbrev pub invariant-loop-index : goal.invariant-loop-index
invariant-loop-index l = take l.index l.ids ≡ take l.index l.others

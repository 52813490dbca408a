use Rattle.std.proofs.Common.{◌≡◌, take}
use Rattle.component_ids.proofs.params.copy_of_ids.Given as goal

abbrev pub invariant-loop-id : goal.invariant-loop-id
invariant-loop-id l = l.copies ≡ take l.id-index l.ids

use Rattle.std.proofs.Common.{take}
use Rattle.component_ids.specs.Identifiers.{AreDistinct}
use Rattle.component_ids.proofs.same.first_repeated.Given as goal

abbrev pub invariant-loop-index : goal.invariant-loop-index
invariant-loop-index l = AreDistinct (take l.index l.ids)

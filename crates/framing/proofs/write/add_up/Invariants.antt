use Rattle.std.proofs.Common.{◌≡◌}
use Rattle.std.specs.Slice.Iter.{iter_rest}
use Rattle.framing.specs.tools.Written.{adds_up}
use Rattle.framing.proofs.write.add_up.Given as goal

abbrev pub invariant-loop-size : goal.invariant-loop-size
invariant-loop-size l =
    (goal.iterator-loop-size).can_next l.size-iterator × (goal.iterator-loop-size).is_finite l.size-iterator
    × (adds_up l.left (iter_rest l.size-iterator) ≡ adds_up l.fn.count l.fn.sizes)

use Rattle.std.proofs.Common.{◌≡◌, ◌++◌, length, true}
use Rattle.std.specs.Slice.Iter.{iter_rest}
use Rattle.framing.specs.Chunks.{chunks_text}
use Rattle.framing.specs.Sizes.{sized_chunks}
use Rattle.framing.specs.tools.Written.{adds_up}
use Rattle.framing.proofs.write.append_chunks.Given as goal

abbrev pub invariant-loop-size : goal.invariant-loop-size
invariant-loop-size l =
    (goal.iterator-loop-size).can_next l.size-iterator × (goal.iterator-loop-size).is_finite l.size-iterator
    × (adds_up (length l.left) (iter_rest l.size-iterator) ≡ true)
    × (l.text ++ chunks_text (sized_chunks (iter_rest l.size-iterator) l.left) ≡ l.initial.text ++ chunks_text (sized_chunks l.fn.sizes l.fn.content))

use Rattle.std.proofs.Common.{ℕ, List, ◌++◌, take}
use Rattle.component_values.specs.tools.Encoding.{IsEncodedUpTo}
use Rattle.component_values.proofs.byte_sequence.feed_piece.Given as goal

abbrev pub invariant-loop-byte : goal.invariant-loop-byte
invariant-loop-byte g l = (text done : List ℕ) → IsEncodedUpTo (g.A.Absorb.absorbed l.fn.into) l.fn.carry text done
    → IsEncodedUpTo (g.A.Absorb.absorbed l.into) l.carry text (done ++ take l.byte-index l.piece)

use Rattle.std.proofs.Common.{◌≡◌, ℕ, List, ◌++◌}
use Rattle.msg_head.specs.LeftInLines.{value_left}
use Rattle.msg_head.specs.Values.{value}
use Rattle.component_values.specs.tools.Encoding.{IsEncodedUpTo}
use Rattle.component_values.proofs.byte_sequence.feed_encoded.Given as goal

abbrev pub invariant-loop-piece : goal.invariant-loop-piece
invariant-loop-piece g l = (done : List ℕ)
    × (done ++ value_left l.piece-iterator ≡ value l.fn.line.raw.now)
    × ((text : List ℕ) → g.A.Absorb.absorbed l.fn.into text → IsEncodedUpTo (g.A.Absorb.absorbed l.into) l.carry text done)

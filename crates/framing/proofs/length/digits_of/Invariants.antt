use Rattle.std.proofs.Common.{◌≡◌, ℕ, List, ◌++◌}
use Rattle.msg_head.specs.LeftInLines.{value_left}
use Rattle.msg_head.specs.Values.{value}
use Rattle.framing.specs.tools.Digits.{AreDigitsOf}
use Rattle.framing.proofs.length.digits_of.Given as goal

abbrev pub invariant-loop-piece : goal.invariant-loop-piece
invariant-loop-piece l = (done : List ℕ)
    × (done ++ value_left l.piece-iterator ≡ value l.fn.line.raw.now)
    × AreDigitsOf done l.digits

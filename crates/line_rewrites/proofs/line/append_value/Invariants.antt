use Rattle.std.proofs.Common.{◌≡◌, ◌++◌}
use Rattle.msg_head.specs.LeftInLines.{value_left}
use Rattle.msg_head.specs.Values.{value}
use Rattle.line_rewrites.proofs.line.append_value.Given as goal

abbrev pub invariant-loop-piece : goal.invariant-loop-piece
invariant-loop-piece l = l.text ++ value_left l.piece-iterator ≡ l.initial.text ++ value l.fn.raw

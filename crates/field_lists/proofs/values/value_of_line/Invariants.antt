use Rattle.std.proofs.Common.{◌≡◌, ◌++◌}
use Rattle.msg_head.specs.LeftInLines.{value_left}
use Rattle.msg_head.specs.Values.{value}
use Rattle.field_lists.proofs.values.value_of_line.Given as goal

abbrev pub invariant-loop-piece : goal.invariant-loop-piece
invariant-loop-piece l = l.text ++ value_left l.piece-iterator ≡ value l.fn.line.raw.now

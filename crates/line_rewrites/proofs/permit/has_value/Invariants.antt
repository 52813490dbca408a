use Rattle.std.proofs.Common.{◌≡◌}
use Rattle.msg_head.specs.LeftInLines.{value_left}
use Rattle.msg_head.specs.Values.{value}
use Rattle.line_rewrites.proofs.permit.has_value.Given as goal

abbrev pub invariant-loop-piece : goal.invariant-loop-piece
invariant-loop-piece l = value_left l.piece-iterator ≡ value l.line.raw.now

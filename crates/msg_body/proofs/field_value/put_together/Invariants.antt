use Rattle.std.proofs.Common.{◌≡◌, ◌++◌}
use Rattle.msg_body.specs.LeftInFields.{combined_left}
use Rattle.msg_body.proofs.field_value.put_together.Given as goal

abbrev pub invariant-loop-piece : goal.invariant-loop-piece
invariant-loop-piece l = l.text ++ combined_left l.piece-iterator ≡ (l.fn.first ++ l.fn.second) ++ combined_left l.fn.others

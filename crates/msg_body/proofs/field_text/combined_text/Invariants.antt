use Rattle.std.proofs.Common.{◌≡◌, ◌++◌}
use Rattle.msg_body.specs.Views.{message_of, lines_on}
use Rattle.msg_body.specs.LeftInFields.{combined_left}
use Rattle.msg_head.specs.Values.{combined_value}
use Rattle.msg_body.proofs.field_text.combined_text.Given as goal

abbrev pub invariant-loop-piece : goal.invariant-loop-piece
invariant-loop-piece l = l.text ++ combined_left l.piece-iterator ≡ combined_value (lines_on l.fn.side (message_of l.fn.message)) l.fn.name

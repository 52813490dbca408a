use Rattle.std.proofs.Common.{◌≡◌, List, ℕ, ◌++◌, true}
use Rattle.std.specs.Char.{is_ascii}
use Rattle.std.specs.List.{list_all}
use Rattle.msg_body.specs.LeftInFields.{combined_left}
use Rattle.msg_head.specs.Values.{joined_value}
use Rattle.component_values.proofs.lines.is_ascii.Given as goal

abbrev pub invariant-loop-piece : goal.invariant-loop-piece
invariant-loop-piece l = (done : List ℕ) × (list_all is_ascii done ≡ true)
    × (done ++ combined_left l.piece-iterator ≡ joined_value l.fn.lines)

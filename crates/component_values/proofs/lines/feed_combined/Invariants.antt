use Rattle.std.proofs.Common.{◌≡◌, ℕ, List, ◌++◌}
use Rattle.msg_body.specs.LeftInFields.{combined_left}
use Rattle.msg_head.specs.Values.{joined_value}
use Rattle.component_values.proofs.lines.feed_combined.Given as goal

abbrev pub invariant-loop-piece : goal.invariant-loop-piece
invariant-loop-piece g l = (done : List ℕ)
    × (done ++ combined_left l.piece-iterator ≡ joined_value l.fn.lines)
    × ((text : List ℕ) → g.A.Absorb.absorbed l.initial.into text → g.A.Absorb.absorbed l.into (text ++ done))

use Rattle.std.proofs.Common.{◌≡◌, ◌==◌, ℕ, List, length, ◌++◌}
use Rattle.msg_head.specs.Lines.{FieldLine}
use Rattle.msg_head.specs.Values.{line_values}
use Rattle.component_values.specs.Values.{byte_sequences}
use Rattle.component_values.proofs.lines.feed_byte_sequences.Given as goal

abbrev pub invariant-loop-line : goal.invariant-loop-line
invariant-loop-line g l = (done : List FieldLine)
    × (done ++ l.line-iterator ≡ l.fn.lines)
    × (l.is_first ≡ (length (line_values done) == 0))
    × ((text : List ℕ) → g.A.Absorb.absorbed l.fn.into text
    → g.A.Absorb.absorbed l.into (text ++ byte_sequences (line_values done)))

-- What an iterator over the pieces of a combined value has left.
use Rattle.std.specs.Prelude.{ℕ, ◌+◌, ◌*◌, List, [], ◌∷◌, ◌++◌, length, codes}
use Rattle.std.specs.List.{flat_map}
use Rattle.msg_head.specs.Lines.{FieldLine}
use Rattle.msg_body.specs.declared.combined.Combined.{Combined}
use Rattle.msg_head.specs.Values.{line_values}
use Rattle.msg_head.specs.LeftInLines.{value_left, pieces_bound}

-- a comma, a space and the value
abbrev pub after_comma : List ℕ → List ℕ
after_comma text = codes ", " ++ text

-- the combined value's bytes that are left
abbrev pub combined_left : Combined → List ℕ
combined_left combined =
    value_left combined.current ++ flat_map after_comma (line_values combined.lines)

-- no more pieces come of these lines than this, the commas before them included
abbrev pub lines_bound : List FieldLine → ℕ
lines_bound [] = 0
lines_bound (line ∷ lines) = 1 + 2 * length line.raw + lines_bound lines

-- no more pieces come than this
abbrev pub combined_bound : Combined → ℕ
combined_bound combined = pieces_bound combined.current + lines_bound combined.lines

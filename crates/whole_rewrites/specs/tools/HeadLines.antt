-- The one line of a name, and heads with another line in its place, computed. No public clause
-- cites this module.
use Rattle.std.specs.Prelude.{ℕ, ◌+◌, ◌-◌, ◌<◌, ◌≤◌, IsTrue, IsFalse, IsSomeAnd, List, ◌∷◌, ◌++◌, length, take, drop, slice_get, codes}
use Rattle.msg_head.specs.Lines.{FieldLine}
use Rattle.msg_head.specs.Names.{has_name}
use Rattle.msg_head.specs.Values.{is_there}
use Rattle.line_rewrites.specs.Sides.{SideParts, lines_text}
use Rattle.whole_rewrites.specs.Lines.{IsLineFor}

-- the line of the index is the only one of the name
pub record IsOnly (name : List ℕ) (lines : List FieldLine) (index : ℕ) : Type 0 where
  pub there : index < length lines
  pub named : IsSomeAnd (slice_get lines index) (λ line. IsTrue (has_name name line))
  pub none_before : IsFalse (is_there (take index lines) name)
  pub none_after : IsFalse (is_there (drop (index + 1) lines) name)

-- the lines with the line of the index another
abbrev pub with_line_at : ℕ → FieldLine → List FieldLine → List FieldLine
with_line_at index new lines = take index lines ++ new ∷ drop (index + 1) lines

-- the bytes of a head with these parts, the line of the index another
abbrev pub head_with : SideParts → ℕ → FieldLine → List ℕ
head_with parts index new =
    parts.before ++ (lines_text (with_line_at index new parts.lines) ++ codes "\r\n")

-- the bytes of a head with these parts
abbrev pub head_in : SideParts → List ℕ
head_in parts = parts.before ++ (lines_text parts.lines ++ codes "\r\n")

-- the line of the index has the name, and none from the other index up to it
pub record IsNextNamed (name : List ℕ) (lines : List FieldLine) (from index : ℕ) : Type 0 where
  pub order : from ≤ index
  pub there : index < length lines
  pub named : IsSomeAnd (slice_get lines index) (λ line. IsTrue (has_name name line))
  pub none_before : IsFalse (is_there (take (index - from) (drop from lines)) name)

-- no line of the name is the only one
abbrev pub HasNoOnly : List ℕ → List FieldLine → Type 0
HasNoOnly name lines =
    (new : FieldLine) (replaced : List FieldLine) → ¬ IsLineFor name new lines replaced

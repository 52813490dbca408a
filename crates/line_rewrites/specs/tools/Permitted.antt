-- What rows ask of a line, by the list that it is in. No public clause cites this module.
use Rattle.std.specs.Prelude.{ℕ, IsSomeAnd, List, slice_get}
use Rattle.msg_head.specs.Lines.{FieldLine}

-- it holds of the line of the index, which is there
abbrev pub OfLineOn : List FieldLine → ℕ → (FieldLine → Type 0) → Type 0
OfLineOn lines index Holds = IsSomeAnd (slice_get lines index) Holds

-- The offset of a fault in a text.
use Rattle.std.specs.Prelude.{ℕ, ◌+◌, ◌<◌, ◌≤◌, List, length, take}
use Rattle.byte_grammar.specs.Language.{Begins}

-- the text isn't of the language, and the offset is the length of its longest prefix with which
-- some text of the language begins
pub record IsFaultOffset {V : Type 0} (L : List ℕ → V → Type 0) (text : List ℕ) (offset : ℕ)
    : Type 0 where
  pub none : (v : V) → ¬ L text v
  pub within : offset ≤ length text
  pub begins : Begins L (take offset text)
  pub last : offset < length text → ¬ Begins L (take (offset + 1) text)

-- Bytes that are kept, used or not. No public clause cites this module.
use Rattle.std.specs.Prelude.{ℕ, List}

-- all bytes that are kept, and those of them that aren't used
pub record KeptBytes : Type 0 where
  pub all : List ℕ
  pub unused : List ℕ

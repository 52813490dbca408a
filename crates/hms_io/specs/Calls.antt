-- Calls that are numbered from 0, of which some are to fail.
use Rattle.std.specs.Prelude.{ℕ, ◌==◌, Bool, List}
use Rattle.std.specs.List.{list_any}

-- what a device in memory keeps of its calls: those that are to fail, and what was counted
pub record CallLog : Type 0 where
  -- the numbers of the calls that fail
  pub fails : List ℕ
  -- how many calls were made, at most 2^64 - 1
  pub made : ℕ
  -- how many faults were counted
  pub faults : ℕ

-- the next call is one of those that fail
abbrev pub fails_next : CallLog → Bool
fails_next log = list_any (λ n. n == log.made) log.fails

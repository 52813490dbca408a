-- What a reading of whole texts answers. No public clause cites this module.
use Rattle.std.specs.Prelude.{◌≡◌, ℕ, ◌-◌, ◌≤◌, List, length, Result, Ok, Err}
use Rattle.sfv_read.specs.declared.error.SfError.{SfError}
use Rattle.sfv_read.specs.declared.error.SfError.TheVariants.{Memory, Syntax}

-- the reading stops at the offset
pub record StopsAt {V : Type 0} (r : List ℕ → Result V ℕ) (text : List ℕ) (offset : ℕ)
    : Type 0 where
  pub left : ℕ
  pub stops : r text ≡ Err left
  pub count : offset ≡ length text - left

-- what is answered of a text, by a reading of whole texts
abbrev pub Answers : {V : Type 0}
    → (List ℕ → Result V ℕ) → List ℕ → Result V SfError → Type 0
Answers r text (Ok v) = r text ≡ Ok v
Answers r text (Err Memory) = 1 ≤ length text
Answers r text (Err (Syntax offset)) = StopsAt r text offset

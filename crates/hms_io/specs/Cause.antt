-- What a count of faults says of an answer. The count stops at 2^64 - 1.
use Rattle.std.specs.Prelude.{◌≡◌, ℕ, ◌+◌, ◌-◌, ◌^◌, ◌≤◌, min, Result, OnOk, OnErr}
use Rattle.hms_io.specs.declared.read_write.FillError.{FillError}
use Rattle.hms_io.specs.declared.read_write.FillError.TheVariants.{Memory, Failed, TooLong}

-- the count after one more fault
abbrev pub one_more : ℕ → ℕ
one_more count = min (count + 1) (2 ^ 64 - 1)

-- the count rose, or is at its last value
abbrev pub Rose : ℕ → ℕ → Type 0
Rose before now = one_more before ≤ now

-- the count never falls, it rose at an error, and any other answer leaves it
pub record HasCause {T E : Type 0} (before now : ℕ) (result : Result T E) : Type 0 where
  pub later : before ≤ now
  pub failed : OnErr result (Rose before now)
  pub kept : OnOk result (now ≡ before)

-- of the errors of `fill` only a failed read raises the count
abbrev pub HasFillCause : ℕ → ℕ → FillError → Type 0
HasFillCause before now Failed = Rose before now
HasFillCause before now Memory = now ≡ before
HasFillCause before now TooLong = now ≡ before

-- Calls that move no byte: reads that give none, and writes that take none.
use Rattle.std.specs.Prelude.{ℕ, ◌==◌, if◌then◌else◌, Result, Ok, Err}
use Rattle.hms_io.specs.Cause.{one_more}

-- the count of such calls, after one more call with this answer. It stops at 2^64 - 1.
abbrev pub idle_after : {E : Type 0} → ℕ → Result ℕ E → ℕ
idle_after count (Ok bytes) = if bytes == 0 then one_more count else count
idle_after count (Err error) = one_more count

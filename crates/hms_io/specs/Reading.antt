-- What reading does to the bytes that a source has left, where they are known, and to the counts of
-- what it gave and of the calls from its end on.
use Rattle.std.specs.Prelude.{◌≡◌, ℕ, ◌+◌, ◌-◌, ◌^◌, min, ◌==◌, ◌≤◌, nat_lt, Bool, false, ◌&&◌, ◌||◌, if◌then◌else◌, List, [], length, drop, Option, Some, IfSome, Result, Ok, Err}
use Rattle.hms_io.specs.Cause.{one_more}

-- the text is all that was left, and nothing is left now
abbrev pub GivesAll : Option (List ℕ) → Option (List ℕ) → List ℕ → Type 0
GivesAll before now text = IfSome before (λ all. (text ≡ all) × (now ≡ Some []))

-- just the first n bytes are gone
abbrev pub LosesPrefix : Option (List ℕ) → Option (List ℕ) → ℕ → Type 0
LosesPrefix before now n = IfSome before (λ all. (n ≤ length all) × (now ≡ Some (drop n all)))

-- the count of the bytes that were given, after one more call. It stops at 2^64 - 1.
abbrev pub given_after : {E : Type 0} → ℕ → Result ℕ E → ℕ
given_after given (Ok count) = min (given + count) (2 ^ 64 - 1)
given_after given (Err error) = given

-- a count of bytes rose by so many at least, or is at its last value
abbrev pub RoseBy : ℕ → ℕ → ℕ → Type 0
RoseBy count before now = min (before + count) (2 ^ 64 - 1) ≤ now

-- the answer for the piece reports the end: 0, where the piece isn't empty
abbrev pub reports_end : {E : Type 0} → Result ℕ E → List ℕ → Bool
reports_end (Ok count) piece = count == 0 && nat_lt 0 (length piece)
reports_end (Err error) piece = false

-- the count of the calls from the one on that reported the end, after one more call
abbrev pub calls_from_end : ℕ → Bool → ℕ
calls_from_end count is_end = if is_end || nat_lt 0 count then one_more count else count

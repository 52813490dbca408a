-- What a function returned, beside what a reader over lists gives. No public clause cites this
-- module.
use Rattle.std.specs.Prelude.{◌≡◌, ℕ, Result, Ok, Err}
use Rattle.sfv_read.specs.declared.error.PartError.{PartError}
use Rattle.sfv_read.specs.declared.error.PartError.TheVariants.{Memory, At}

-- the reader stopped there, or memory ran out
abbrev pub Stops : {Y : Type 0} → PartError → Result Y ℕ → Type 0
Stops Memory read = Unit {0}
Stops (At n) read = read ≡ Err n

-- what was returned, seen by view, is what the reader gives, unless memory ran out
abbrev pub GivesUnlessMemory : {X Y : Type 0} → (X → Y) → Result X PartError → Result Y ℕ → Type 0
GivesUnlessMemory view (Ok x) read = read ≡ Ok (view x)
GivesUnlessMemory view (Err e) read = Stops e read

-- a fact of where memory ran out
abbrev pub IfMemory : PartError → Type 0 → Type 0
IfMemory Memory P = P
IfMemory (At n) P = Unit {0}

-- something was read, or memory ran out
abbrev pub UnlessStopped : {X : Type 0} → Result X PartError → Type 0 → Type 0
UnlessStopped (Ok x) P = P
UnlessStopped (Err e) P = IfMemory e P

-- What a function returned, beside what a reader over lists gives. No public clause cites this
-- module.
use Rattle.std.specs.Prelude.{◌≡◌, ⊤, Bool, true, false, Option, Some, None, Result, Ok, Err}
use Rattle.rewrite_script.specs.declared.fault.LineFault.{LineFault}
use Rattle.rewrite_script.specs.declared.fault.LineFault.TheVariants.{Memory, NotSpelled}

-- what was returned, seen by view, is what the reader gives, unless memory ran out
abbrev pub Gives : {X Y : Type 0} → (X → Y) → Result X LineFault → Option Y → Type 0
Gives view (Ok x) read = read ≡ Some (view x)
Gives view (Err NotSpelled) read = read ≡ None
Gives view (Err Memory) read = ⊤

-- the test is whether it holds
abbrev pub Decides : Type 0 → Bool → Type 0
Decides P true = P
Decides P false = ¬ P

-- nothing that has the property is read, unless memory ran out
abbrev pub FailsWhere : {Y : Type 0} → (Y → Type 0) → LineFault → Option Y → Type 0
FailsWhere {Y} P NotSpelled read = (y : Y) → read ≡ Some y → ¬ P y
FailsWhere {Y} P Memory read = ⊤

-- the same, where what is read has a property, and none else
abbrev pub GivesWhere : {X Y : Type 0}
    → (Y → Type 0) → (X → Y) → Result X LineFault → Option Y → Type 0
GivesWhere {X} {Y} P view (Ok x) read = (read ≡ Some (view x)) × P (view x)
GivesWhere {X} {Y} P view (Err fault) read = FailsWhere P fault read

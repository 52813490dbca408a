-- What the parts of the code answer. No public clause cites this module.
use Rattle.std.specs.Prelude.{◌≡◌, ⊤, ℕ, Option, Some, None, IsSomeAnd, Result, Ok, Err, List, ◌++◌}
use Rattle.line_rewrites.specs.declared.fault.ApplyFault.{ApplyFault}
use Rattle.line_rewrites.specs.declared.fault.ApplyFault.TheVariants.{Memory, NotApplicable}

-- the bytes that are made are added at the end of the text, or there are none
abbrev pub Adds : {T : Type 0} → Option (List ℕ) → List ℕ → List ℕ → Result T ApplyFault → Type 0
Adds made old new (Ok _) = IsSomeAnd made (λ bytes. new ≡ old ++ bytes)
Adds made old new (Err NotApplicable) = made ≡ None
Adds made old new (Err Memory) = ⊤

-- the bytes that are made are answered, or there are none
abbrev pub Makes : Option (List ℕ) → Result (List ℕ) ApplyFault → Type 0
Makes made (Ok text) = made ≡ Some text
Makes made (Err NotApplicable) = made ≡ None
Makes made (Err Memory) = ⊤

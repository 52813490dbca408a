-- What is judged first, and what comes after it.
use Rattle.std.specs.Prelude.{◌≡◌, ◌⊎◌}
use Rattle.commands.specs.declared.outcome.Outcome.{Outcome}
use Rattle.commands.specs.declared.outcome.Outcome.TheVariants.{Refused}
use Rattle.refusals.specs.declared.refusal.Refusal.{Refusal}

-- a value is read, and the outcome is one that comes after it; or there is a cause to refuse it,
-- and the outcome is its refusal
abbrev pub ReadsThen : {V C : Type 0} → (V → Type 0) → (C → Type 0) → (C → Refusal)
    → (V → Outcome → Type 0) → Outcome → Type 0
ReadsThen {V} {C} Reads Causes refusal_of Then outcome =
    ((value : V) × Reads value × Then value outcome)
    ⊎ ((cause : C) × Causes cause × (outcome ≡ Refused (refusal_of cause)))

-- the value is made, and there is no cause to refuse it
pub record IsUnrefused {V C : Type 0} (Makes : V → Type 0) (Causes : C → Type 0) (value : V)
    : Type 0 where
  pub made : Makes value
  pub none : (cause : C) → ¬ Causes cause

-- a value is made where there is no cause to refuse it, and the outcome is one that comes after it;
-- or there is a cause, and the outcome is its refusal
abbrev pub MakesThen : {V C : Type 0} → (V → Type 0) → (C → Type 0) → (C → Refusal)
    → (V → Outcome → Type 0) → Outcome → Type 0
MakesThen Makes Causes refusal_of Then =
    ReadsThen (IsUnrefused Makes Causes) Causes refusal_of Then

-- What is read at a layer, and why it is refused.
use Rattle.std.specs.Prelude.{◌≡◌, ◌⊎◌, List, ℕ, Option, IsSomeAnd, MatchOption}
use Rattle.refusals.specs.declared.file.FileRefusal.{FileRefusal}
use Rattle.refusals.specs.declared.file.FileRefusal.TheVariants.{Missing}

-- what is read is at most one value, it is refused for at most one cause, and there aren't both
pub record IsDecisive {V C : Type 0} (Reads : V → Type 0) (Causes : C → Type 0) : Type 0 where
  pub value : (v w : V) → Reads v → Reads w → v ≡ w
  pub cause : (c d : C) → Causes c → Causes d → c ≡ d
  pub either : (v : V) (c : C) → Reads v → Causes c → ⊥

-- a value is read, or there is a cause to refuse it
abbrev pub HasAnswer : {V C : Type 0} → (V → Type 0) → (C → Type 0) → Type 0
HasAnswer {V} {C} Reads Causes = ((value : V) × Reads value) ⊎ ((cause : C) × Causes cause)

-- the text was found, and its value is read
abbrev pub ReadsFound : {V : Type 0} → (List ℕ → V → Type 0) → Option (List ℕ) → V → Type 0
ReadsFound Reads found value = IsSomeAnd found (λ text. Reads text value)

-- why a file is refused: none was found, or there is a cause to refuse its text
abbrev pub IsFileRefused : (List ℕ → FileRefusal → Type 0) → Option (List ℕ) → FileRefusal
    → Type 0
IsFileRefused Causes found refusal =
    MatchOption found (refusal ≡ Missing) (λ text. Causes text refusal)

-- Parts that bytes begin with, and what else is known of bytes. No public clause cites this module.
use Rattle.std.specs.Prelude.{◌≡◌, ◌⊎◌, ℕ, ◌+◌, List, drop}
use Rattle.msg_body.specs.Causes.{After}

-- The bytes begin with at most one part, of one length, and have at most one fault. Of a part, a
-- fault, and that more bytes may come, one holds at most.
pub record IsDecided {V F : Type 0} (IsPart : V → ℕ → Type 0) (IsFault : F → Type 0)
    (IsOpen : Type 0) : Type 0 where
  pub one : (part other : V) (n m : ℕ) → IsPart part n → IsPart other m
      → (part ≡ other) × (n ≡ m)
  pub one_fault : (fault other : F) → IsFault fault → IsFault other → fault ≡ other
  pub no_fault : (part : V) (n : ℕ) (fault : F) → IsPart part n → ¬ IsFault fault
  pub open_fault : (fault : F) → IsOpen → ¬ IsFault fault
  pub open_part : (part : V) (n : ℕ) → IsOpen → ¬ IsPart part n

-- the bytes begin with a part, or have a fault, or more bytes may come
abbrev pub HasAnswer : {V F : Type 0} → (V → ℕ → Type 0) → (F → Type 0) → Type 0 → Type 0
HasAnswer {V} {F} IsPart IsFault IsOpen =
    ((part : V) × (n : ℕ) × IsPart part n) ⊎ ((fault : F) × IsFault fault) ⊎ IsOpen

-- the fault of a part, in the terms of the whole
abbrev pub IsFaultAs : {F G : Type 0} → (F → G) → (F → Type 0) → G → Type 0
IsFaultAs {F} {G} told IsFault fault = (cause : F) × IsFault cause × (fault ≡ told cause)

-- two parts, the second right after the first
pub record AreParts {V W : Type 0} (IsPart : V → ℕ → List ℕ → Type 0)
    (IsNext : V → ℕ → List ℕ → W → ℕ → Type 0) (bytes : List ℕ) (parts : V × W) (used : ℕ)
    : Type 0 where
  pub count : ℕ
  pub rest : ℕ
  pub first : IsPart parts.0 count bytes
  pub second : IsNext parts.0 count (drop count bytes) parts.1 rest
  pub used_is : used ≡ count + rest

-- a fault of the first part, or where it is there one of the second
abbrev pub IsFaultOfParts : {V G : Type 0} → (V → ℕ → List ℕ → Type 0) → (G → Type 0)
    → (V → ℕ → List ℕ → G → Type 0) → List ℕ → G → Type 0
IsFaultOfParts IsPart IsFault IsNextFault bytes fault =
    IsFault fault ⊎ After IsPart (λ part used rest. IsNextFault part used rest fault) bytes

-- more bytes may come of the first part, or where it is there of the second
abbrev pub AreOpen : {V : Type 0} → (V → ℕ → List ℕ → Type 0) → Type 0
    → (V → ℕ → List ℕ → Type 0) → List ℕ → Type 0
AreOpen IsPart IsOpen IsNextOpen bytes = IsOpen ⊎ After IsPart IsNextOpen bytes

-- Faults that are judged in an order: of those whose cause holds, the first is answered.
use Rattle.std.specs.Prelude.{◌≡◌, ◌⊎◌, ℕ, ◌<◌, Result, Ok, Err}

-- the fault's cause holds, and no cause before it in the order does
pub record IsFirst {F : Type 0} (order : F → ℕ) (Holds : F → Type 0) (fault : F) : Type 0 where
  pub holds : Holds fault
  pub none_before : (other : F) → order other < order fault → ¬ Holds other

-- the fault is answered exactly where the fact holds, being out of memory aside
pub record AnswersWhere {T F : Type 0} (memory : F) (result : Result T F) (fault : F)
    (P : Type 0) : Type 0 where
  pub only : result ≡ Err fault → P
  pub there : P → (result ≡ Err fault) ⊎ (result ≡ Err memory)

-- the answer is this value, or out of memory
abbrev pub AnswersUnlessMemory : {T F : Type 0} → F → Result T F → T → Type 0
AnswersUnlessMemory memory result value = (result ≡ Ok value) ⊎ (result ≡ Err memory)

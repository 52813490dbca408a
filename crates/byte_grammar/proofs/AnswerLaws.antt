-- Answers that have their causes, where one of the errors is out of memory and has none.
use Rattle.std.proofs.Common.{◌≡◌, ◌≢◌, ◌⊎◌, inl, inr, sym, subst, ap, ◌∙◌}
use Rattle.std.specs.Prelude.{Result, Ok, Err, IsErrAnd, IfErr}
use Rattle.byte_grammar.specs.Causes.{AnswersWhere}

-- the fact of the error that is given
pub err_of : {T E : Type 0} (result : Result T E) (P : E → Type 0) (e : E) → IsErrAnd result (λ given. given ≡ e) → P e → IfErr result P
err_of (Ok x) P e is p = tt
err_of (Err f) P e is p = subst P (sym is) p

-- whether an error is out of memory is decided
abbrev pub IsMemoryDecided : {F : Type 0} → F → Type 0
IsMemoryDecided {F} memory = (e : F) → (e ≡ memory) ⊎ (e ≢ memory)

-- an error for which nothing can hold is out of memory
pub memory_if : {F : Type 0} (memory : F) → IsMemoryDecided memory → (e : F) → (e ≢ memory → ⊥) → e ≡ memory
memory_if memory decided e other = elim (decided e) [
  | inl is ↦ is
  | inr own ↦ absurd (other own)
]

-- the fault that is answered is one, out of memory aside, and where none is answered there is none
abbrev pub NamesFault : {T F : Type 0} → F → (F → Type 0) → Result T F → Type 0
NamesFault {T} {F} memory IsError (Ok x) = (fault : F) → ¬ IsError fault
NamesFault {T} {F} memory IsError (Err fault) = fault ≢ memory → IsError fault

only_fault : {T F : Type 0} (memory : F) (IsError : F → Type 0) (result : Result T F) → NamesFault memory IsError result → (fault : F) → fault ≢ memory → result ≡ Err fault → IsError fault
only_fault memory IsError (Ok x) named fault own e = absurd cc
only_fault memory IsError (Err f) named fault own e =
    let same : f ≡ fault = cc in subst IsError same (named (λ m. own (sym same ∙ m)))

fault_there : {T F : Type 0} (memory : F) → IsMemoryDecided memory → (IsError : F → Type 0) (result : Result T F) → ((e f : F) → IsError e → IsError f → e ≡ f) → NamesFault memory IsError result → (fault : F) → IsError fault → (result ≡ Err fault) ⊎ (result ≡ Err memory)
fault_there memory decided IsError (Ok x) one named fault is = absurd (named fault is)
fault_there memory decided IsError (Err e) one named fault is = elim (decided e) [
  | inl memory ↦ inr (ap Err memory)
  | inr own ↦ inl (ap Err (one e fault (named own) is))
]

-- where there is at most one fault, each is answered exactly where it is one
pub answers_where : {T F : Type 0} (memory : F) → IsMemoryDecided memory → (IsError : F → Type 0) (result : Result T F) → ((e f : F) → IsError e → IsError f → e ≡ f) → NamesFault memory IsError result → (fault : F) → fault ≢ memory → AnswersWhere memory result fault (IsError fault)
answers_where memory decided IsError result one named fault own = record {
  only = only_fault memory IsError result named fault own;
  there = fault_there memory decided IsError result one named fault;
}

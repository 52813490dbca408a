-- Texts of bytes.
use Rattle.std.proofs.Common.{◌≡◌, ℕ, suc, ◌<◌, true, Result, Ok, Err, List, [], ◌∷◌, slice_index, refl, subst, sym}
use Rattle.std.specs.Prelude.{IsTrue, IfOk}
use Rattle.std.specs.List.{list_all}
use Rattle.std.proofs.lemmas.Bool.{lt-ltb}
use Rattle.sfv_text.specs.Range.{is_byte}
use Rattle.byte_grammar.specs.declared.memory.Memory.{Memory}

all_bytes : (text : List ℕ) → ((i : ℕ) → slice_index text i < 256) → list_all is_byte text ≡ true
all_bytes [] below = refl
all_bytes (c ∷ text) below = rw (lt-ltb c 256 (below 0), all_bytes text (λ i. below (suc i))) refl

-- what is made of bytes is one
pub made_of_bytes : (result : Result (List ℕ) Memory) (bytes : List ℕ) → IfOk result (λ text. text ≡ bytes) → ((i : ℕ) → slice_index bytes i < 256)
    → IfOk result (λ text. IsTrue (list_all is_byte text))
made_of_bytes (Ok text) bytes same below = subst (λ (t : List ℕ). list_all is_byte t ≡ true) (sym same) (all_bytes bytes below)
made_of_bytes (Err fault) bytes same below = same

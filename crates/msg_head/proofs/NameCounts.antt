-- Whether some field line has a name, by the number of its values.
use Rattle.std.proofs.Common.{◌≡◌, ℕ, nat_lt, true, List, [], ◌∷◌, length, suc, arith, sym, inl, inr, refl}
use Rattle.std.proofs.lemmas.Bool.{cases_Bool}
use Rattle.std.proofs.lemmas.Bool.Decides.{nat_tests}
use Rattle.msg_head.specs.Lines.{FieldLine}
use Rattle.msg_head.specs.Names.{has_name}
use Rattle.msg_head.specs.Values.{values, is_there}

pub positive : (n : ℕ) → true ≡ nat_lt 0 (suc n)
positive n = let t : nat_lt 0 (suc n) ≡ true = grind (arith, nat_tests) in sym t

pub there_count : (lines : List FieldLine) (name : List ℕ) → is_there lines name ≡ nat_lt 0 (length (values lines name))
there_count [] name = refl
there_count (line ∷ lines) name = elim (cases_Bool (has_name name line)) [
  | inl h ↦ rw h (positive (length (values lines name)))
  | inr k ↦ rw k (there_count lines name)
]

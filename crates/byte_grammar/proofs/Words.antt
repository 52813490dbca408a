-- A byte of one class and then bytes of another, cut off in one piece.
use Rattle.std.proofs.Common.{◌≡◌, ℕ, suc, ◌+◌, Bool, true, false, List, [], ◌∷◌, length, take, drop, Result, Ok, Err, refl, ap, arith}
use Rattle.byte_grammar.specs.Walk.{byte_if, byte_read, run_length, all_read, word_read}

-- what the reader of one byte takes is first
pub byte_stands : (class : ℕ → Bool) (bytes : List ℕ) (c : ℕ) (rest : List ℕ) → byte_read class bytes ≡ Ok (c, rest) → bytes ≡ c ∷ rest
unfolding byte_read
byte_stands class [] c rest e = absurd cc
byte_stands class (d ∷ more) c rest e = go (class d) e
  where
    go : (b : Bool) → byte_if b d more ≡ Ok (c, rest) → d ∷ more ≡ c ∷ rest
    go true e = ap (λ (r : Result (ℕ × List ℕ) ℕ). elim r [ Ok a ↦ a.0 ∷ a.1 | Err n ↦ [] ]) e
    go false e = absurd cc

pub word_cut : (first others : ℕ → Bool) (bytes : List ℕ) (c n : ℕ) (rest : List ℕ) → byte_read first bytes ≡ Ok (c, rest) → n ≡ run_length others (length rest) rest
    → word_read first others bytes ≡ Ok (take (1 + n) bytes, drop (1 + n) bytes)
unfolding word_read all_read
word_cut first others bytes c n rest e is =
    let prefix : 1 + n ≡ suc n = omega arith in
    rw (e, prefix, byte_stands first bytes c rest e, is) refl

pub word_err : (first others : ℕ → Bool) (bytes : List ℕ) (n : ℕ) → byte_read first bytes ≡ Err n → word_read first others bytes ≡ Err n
unfolding word_read
word_err first others bytes n e = rw e refl

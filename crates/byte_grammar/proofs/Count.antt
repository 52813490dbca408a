-- Counting bytes of a class, as a loop does.
use Rattle.std.proofs.Common.{take, ◌≡◌, ℕ, zero, suc, ◌+◌, ◌-◌, ◌<◌, ◌≤◌, Bool, true, false, cond, List, [], ◌∷◌, length, get_or, drop, refl, ◌∙◌, arith}
use Rattle.std.proofs.lemmas.List.{length-drop}
use Rattle.std.proofs.Math.Seq.{drop-cons}
use Rattle.std.specs.List.{list_all}
use Rattle.std.proofs.lemmas.List.Folds.{list_all_more}
use Rattle.byte_grammar.specs.Walk.{run_length}

run_at : (class : ℕ → Bool) (most n : ℕ) (bytes : List ℕ) (d : ℕ) → n < most → n < length bytes
    → run_length class (most - n) (drop n bytes) ≡ cond (class (get_or bytes n d)) (suc (run_length class (most - (n + 1)) (drop (n + 1) bytes))) 0
unfolding run_length
run_at class most n bytes d lt short =
    let room : most - n ≡ suc (most - (n + 1)) = omega arith in
    let next : n + 1 ≡ suc n = omega arith in
    rw (room, drop-cons bytes n d short, next) refl

no_run : (class : ℕ → Bool) (k : ℕ) (bytes : List ℕ) → length bytes ≡ 0 → run_length class k bytes ≡ 0
unfolding run_length
no_run class zero bytes e = refl
no_run class (suc k) [] e = refl
no_run class (suc k) (c ∷ bytes) e = absurd (omega arith)

no_room : (class : ℕ → Bool) (k : ℕ) (bytes : List ℕ) → k ≡ 0 → run_length class k bytes ≡ 0
unfolding run_length
no_room class zero bytes e = refl
no_room class (suc k) bytes e = absurd (omega arith)

pub one_more : (class : ℕ → Bool) (most n : ℕ) (bytes : List ℕ) (d total : ℕ) → n < most → n < length bytes → class (get_or bytes n d) ≡ true
    → n + run_length class (most - n) (drop n bytes) ≡ total → (n + 1) + run_length class (most - (n + 1)) (drop (n + 1) bytes) ≡ total
one_more class most n bytes d total lt short is e =
    let at : run_length class (most - n) (drop n bytes) ≡ suc (run_length class (most - (n + 1)) (drop (n + 1) bytes)) = run_at class most n bytes d lt short ∙ rw is refl in
    omega arith

pub at_other : (class : ℕ → Bool) (most n : ℕ) (bytes : List ℕ) (d total : ℕ) → n < most → n < length bytes → class (get_or bytes n d) ≡ false
    → n + run_length class (most - n) (drop n bytes) ≡ total → n ≡ total
at_other class most n bytes d total lt short is e =
    let at : run_length class (most - n) (drop n bytes) ≡ 0 = run_at class most n bytes d lt short ∙ rw is refl in
    omega arith

pub at_end : (class : ℕ → Bool) (most n : ℕ) (bytes : List ℕ) (total : ℕ) → n ≡ length bytes
    → n + run_length class (most - n) (drop n bytes) ≡ total → n ≡ total
at_end class most n bytes total at e = omega (arith, no_run class (most - n) (drop n bytes) (omega (arith, length-drop n bytes)))

pub at_most : (class : ℕ → Bool) (most n : ℕ) (bytes : List ℕ) (total : ℕ) → most ≤ n
    → n + run_length class (most - n) (drop n bytes) ≡ total → n ≡ total
at_most class most n bytes total at e = omega (arith, no_room class (most - n) (drop n bytes) (omega arith))

pub all_more : (class : ℕ → Bool) (n : ℕ) (bytes : List ℕ) (d : ℕ) → n < length bytes → list_all class (take n bytes) ≡ true → class (get_or bytes n d) ≡ true → list_all class (take (n + 1) bytes) ≡ true
all_more class n bytes d lt all is = list_all_more class bytes n d lt ∙ rw (all, is) refl

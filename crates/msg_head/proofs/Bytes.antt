-- Blanks, line ends, and the first byte of a class.
use Rattle.std.proofs.Common.{◌≡◌, ℕ, zero, suc, ◌<◌, ◌≤◌, Bool, true, false, ◌||◌, ◌==◌, not, List, [], ◌∷◌, ◌++◌, length, take, drop, refl, sym, ap, ◌∙◌, inl, inr, arith}
use Rattle.std.specs.Prelude.{slice_index, Some, None}
use Rattle.std.specs.List.{list_all}
use Rattle.std.proofs.lemmas.Bool.{or_cases, eqb-true, cases_Bool, false≢true}
use Rattle.std.proofs.lemmas.List.{append-nil, take-append-drop}
use Rattle.memchr.specs.Find.{IsFirstByte}
use Rattle.byte_grammar.specs.Classes.{is_blank}
use Rattle.byte_grammar.specs.Language.{starts_in}
use Rattle.msg_head.specs.Values.{is_end}
use Rattle.msg_head.specs.tools.Walks.{is_solid, IsLineBefore}

pub blank_no_end : (c : ℕ) → is_blank c ≡ true → is_end c ≡ false
blank_no_end c is = elim (or_cases (c == 32) (c == 9) is) [
  | inl e ↦ rw (eqb-true c 32 e) refl
  | inr e ↦ rw (eqb-true c 9 e) refl
]

neither : (a b : Bool) → not (a || b) ≡ true → (a ≡ false) × (b ≡ false)
neither false false is = (refl, refl)
neither false true is = absurd (false≢true is)
neither true b is = absurd (false≢true is)

pub solid_no_blank : (c : ℕ) → is_solid c ≡ true → (is_blank c ≡ false) × (is_end c ≡ false)
solid_no_blank c is = neither (is_blank c) (is_end c) is

-- no byte before the index passes the test
pub clean_before : (test : ℕ → Bool) (bytes : List ℕ) (n : ℕ) → n ≤ length bytes → ((k : ℕ) → k < n → test (slice_index bytes k) ≡ true → ⊥)
    → list_all (λ c. not (test c)) (take n bytes) ≡ true
clean_before test bytes zero within none = refl
clean_before test [] (suc n) within none = refl
clean_before test (c ∷ cs) (suc n) within none = elim (cases_Bool (test c)) [
  | inl is ↦ absurd (none 0 (omega arith) is)
  | inr not ↦ rw not (clean_before test cs n (omega (arith, within)) (λ k less. none (suc k) (omega (arith, less))))
]

-- the first byte from an index on is that at the index
starts_is : (test : ℕ → Bool) (bytes : List ℕ) (n : ℕ) → n < length bytes → starts_in test (drop n bytes) ≡ test (slice_index bytes n)
starts_is test [] n less = absurd (omega (arith, less))
starts_is test (c ∷ cs) zero less = refl
starts_is test (c ∷ cs) (suc n) less = starts_is test cs n (omega (arith, less))

pub clean_all : (test : ℕ → Bool) (bytes : List ℕ) → ((k : ℕ) → k < length bytes → test (slice_index bytes k) ≡ true → ⊥)
    → list_all (λ c. not (test c)) bytes ≡ true
clean_all test [] none = refl
clean_all test (c ∷ cs) none = elim (cases_Bool (test c)) [
  | inl is ↦ absurd (none 0 (omega arith) is)
  | inr not ↦ rw not (clean_all test cs (λ k less. none (suc k) (omega (arith, less))))
]

-- the line before the first end that was found
pub found_end : (bytes line rest : List ℕ) (n : ℕ) → line ≡ take n bytes → rest ≡ drop n bytes → IsFirstByte is_end bytes (Some n) → IsLineBefore line rest bytes
found_end bytes line rest n line_is rest_is first = record {
  joined = sym (ap (λ l. l ++ rest) line_is ∙ ap (λ r. take n bytes ++ r) rest_is ∙ take-append-drop n bytes);
  clean = ap (list_all (λ c. not (is_end c))) line_is ∙ clean_before is_end bytes n (omega (arith, first.0.high)) (λ k less is. first.0.before k (omega arith) less is);
  stops = inr (ap (starts_in is_end) rest_is ∙ starts_is is_end bytes n first.0.high ∙ first.1);
}

-- no end was found
pub no_end : (bytes : List ℕ) → IsFirstByte is_end bytes None → IsLineBefore bytes [] bytes
no_end bytes none = record {
  joined = sym (append-nil bytes);
  clean = clean_all is_end bytes (λ k less is. none k (omega arith) less is);
  stops = inl refl;
}

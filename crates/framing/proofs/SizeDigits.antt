-- The hexadecimal digits of a number are those of all but its last digit, and the last one.
use Rattle.std.proofs.Common.{◌≡◌, ℕ, zero, suc, ◌/◌, ◌%◌, ◌^◌, ◌≤◌, ◌<◌, Bool, false, cond, List, [], ◌∷◌, ◌++◌, refl, sym, ap, ◌∙◌, inl, inr, arith, append_assoc}
use Rattle.std.specs.Fmt.{digit_glyph, digits, digits_onto}
use Rattle.std.proofs.lemmas.Bool.{cases_lt, eq-eqb, ne_eqb}

abbrev spell : ℕ → ℕ → List ℕ → List ℕ
spell k n acc = digits_onto k 16 false n acc

abbrev last_glyph : ℕ → ℕ
last_glyph n = digit_glyph false (n % 16)

spell_last : (k n : ℕ) (acc : List ℕ) → n < 16 → spell (suc k) n acc ≡ last_glyph n ∷ acc
spell_last k n acc small = ap (λ (t : Bool). cond t (last_glyph n ∷ acc) (spell k (n / 16) (last_glyph n ∷ acc))) (eq-eqb (n / 16) 0 (omega (arith, small)))

spell_next : (k n : ℕ) (acc : List ℕ) → 16 ≤ n → spell (suc k) n acc ≡ spell k (n / 16) (last_glyph n ∷ acc)
spell_next k n acc large = ap (λ (t : Bool). cond t (last_glyph n ∷ acc) (spell k (n / 16) (last_glyph n ∷ acc))) (ne_eqb (n / 16) 0 (λ e. omega (arith, e, large)))

-- more digits come before those that are there
spelt_before : (k n : ℕ) (acc : List ℕ) → spell k n acc ≡ spell k n [] ++ acc
spelt_before zero n acc = refl
spelt_before (suc k) n acc = elim (cases_lt n 16) [
  | inl small ↦ spell_last k n acc small ∙ ap (λ x. x ++ acc) (sym (spell_last k n [] small))
  | inr large ↦
      spell_next k n acc large
      ∙ (spelt_before k (n / 16) (last_glyph n ∷ acc)
      ∙ (sym (append_assoc (spell k (n / 16) []) (last_glyph n ∷ []) acc)
      ∙ ap (λ x. x ++ acc) (sym (spell_next k n [] large ∙ spelt_before k (n / 16) (last_glyph n ∷ [])))))
]

-- how many digits there may be doesn't count, where they are enough
spelt_enough : (j k n : ℕ) (acc : List ℕ) → n < 16 ^ suc j → n < 16 ^ suc k → spell (suc j) n acc ≡ spell (suc k) n acc
spelt_enough zero k n acc p q = spell_last zero n acc (omega (arith, p)) ∙ sym (spell_last k n acc (omega (arith, p)))
spelt_enough (suc j) zero n acc p q = spell_last (suc j) n acc (omega (arith, q)) ∙ sym (spell_last zero n acc (omega (arith, q)))
spelt_enough (suc j) (suc k) n acc p q = elim (cases_lt n 16) [
  | inl small ↦ spell_last (suc j) n acc small ∙ sym (spell_last (suc k) n acc small)
  | inr large ↦
      spell_next (suc j) n acc large
      ∙ (spelt_enough j k (n / 16) (last_glyph n ∷ acc) (omega (arith, p)) (omega (arith, q)) ∙ sym (spell_next (suc k) n acc large))
]

pub hex_step : (n : ℕ) → 16 ≤ n → n < 2 ^ 64 → digits 16 false n ≡ digits 16 false (n / 16) ++ (digit_glyph false (n % 16) ∷ [])
unfolding digits
hex_step n large small =
    spell_next 63 n [] large
    ∙ (spelt_enough 62 63 (n / 16) (last_glyph n ∷ []) (omega (arith, small)) (omega (arith, small)) ∙ spelt_before 64 (n / 16) (last_glyph n ∷ []))

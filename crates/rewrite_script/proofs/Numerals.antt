-- Numbers of few digits, without leading zeros.
use Rattle.std.proofs.Common.{◌≡◌, ◌<◌, ◌≤◌, ◌^◌, ℕ, Bool, true, false, not, ◌&&◌, List, [], ◌∷◌, length, get_or, refl, sym, ap, ◌∙◌, arith, inl, inr, eqb, Some}
use Rattle.std.specs.Prelude.{nat_lt, nat_le}
use Rattle.std.specs.Fmt.{decimal}
use Rattle.std.specs.Int.{IsInRange}
use Rattle.std.specs.List.{list_all}
use Rattle.std.specs.Str.Parse.{digits_value}
use Rattle.std.proofs.lemmas.Bool.{cases_Bool, cases_lt, and_parts, and_from, eqb-true}
use Rattle.std.proofs.lemmas.Bool.Decides.{nat_tests}
use Rattle.std.proofs.lemmas.Fmt.{decimal_nonempty, decimal_digit, first_decimal, length-decimal-le, digits_decimal, digits_value-decimal, decimal-digits_value}
use Rattle.std.proofs.lemmas.Str.Parse.{IsDigitsTest, IsNumeralModel, numerals_by_value, digits_value_short}
use Rattle.byte_grammar.specs.Classes.{is_digit, is_line_byte}
use Rattle.byte_grammar.proofs.ChoiceLaws.{apart}
use Rattle.byte_grammar.proofs.ListLaws.{all_implied}
use Rattle.rewrite_script.specs.Lines.{is_number}
use Rattle.rewrite_script.specs.tools.LineWalk.{has_leading_zero, is_number_word, number_read}
use Rattle.rewrite_script.proofs.Cuts.{but}
use Rattle.rewrite_script.proofs.Exactness.{IsExact, line_byte_of, some_if_is}

abbrev AreDigits : List ℕ → Type 0
AreDigits ds = list_all is_digit ds ≡ true

pub digit_in : (c : ℕ) → is_digit c ≡ true → IsInRange 48 57 c
digit_in c is = grind (arith, nat_tests)

digit_from : (c : ℕ) → IsInRange 48 57 c → is_digit c ≡ true
digit_from c is = grind (arith, nat_tests)

digits_test : IsDigitsTest AreDigits
digits_test = record {
  empty = refl;
  parts = λ c cs all. let both = and_parts (is_digit c) (list_all is_digit cs) all in (digit_in c both.0, both.1);
  more = λ c cs range all. and_from (is_digit c) (list_all is_digit cs) (digit_from c range) all;
}

model : IsNumeralModel AreDigits (digits_value 10)
model = numerals_by_value AreDigits digits_test

-- ---- leading zeros

-- the first of several digits
leading : (word : List ℕ) → has_leading_zero word ≡ false → get_or word 0 0 ≡ 48 → length word ≤ 1
leading [] none first = omega arith
leading (c ∷ cs) none first = elim (cases_lt 1 (length (c ∷ cs))) [
  | inl several ↦ absurd (first_zero c cs first none several)
  | inr few ↦ few
]
  where
    first_zero : (c : ℕ) (cs : List ℕ) → c ≡ 48 → (nat_lt 1 (length (c ∷ cs)) && eqb c 48) ≡ false → 1 < length (c ∷ cs) → ⊥
    first_zero c cs is none several = grind (arith, nat_tests)

and_none : (b : Bool) → (b && false) ≡ false
and_none true = refl
and_none false = refl

no_leading : (n : ℕ) → n < 2 ^ 64 → has_leading_zero (decimal n) ≡ false
no_leading n small = go (decimal n) (decimal_nonempty n small) first
  where
    first : get_or (decimal n) 0 0 ≡ 48 → length (decimal n) ≤ 1
    first is = elim (cases_lt 0 n) [
      | inl some ↦ absurd (omega (arith, is, first_decimal n some small))
      | inr none ↦ let e : n ≡ 0 = omega arith in omega (arith, ap (λ (m : ℕ). length (decimal m)) e, ap (λ (y : List ℕ). length y) (decimal_digit 0 (omega arith)))
    ]

    go : (word : List ℕ) → 0 < length word → (get_or word 0 0 ≡ 48 → length word ≤ 1) → has_leading_zero word ≡ false
    go [] some lead = refl
    go (c ∷ cs) some lead = elim (cases_Bool (eqb c 48)) [
      | inl is ↦ let one : length (c ∷ cs) ≤ 1 = lead (eqb-true c 48 is) in let few : nat_lt 1 (length (c ∷ cs)) ≡ false = grind (arith, nat_tests) in rw few refl
      | inr other ↦ rw other (and_none (nat_lt 1 (length (c ∷ cs))))
    ]

-- ---- the parts of the test

pub record IsNumberWord (word : List ℕ) : Type 0 where
  pub some : 0 < length word
  pub few : length word ≤ 9
  pub digits : list_all is_digit word ≡ true
  pub lead : has_leading_zero word ≡ false

pub number_word : (word : List ℕ) → is_number_word word ≡ true → IsNumberWord word
number_word word is =
    let a = and_parts (nat_lt 0 (length word)) (nat_le (length word) 9 && (list_all is_digit word && not (has_leading_zero word))) is in
    let b = and_parts (nat_le (length word) 9) (list_all is_digit word && not (has_leading_zero word)) a.1 in
    let c = and_parts (list_all is_digit word) (not (has_leading_zero word)) b.1 in
    record { some = grind (arith, nat_tests); few = grind (arith, nat_tests); digits = c.0; lead = not_is (has_leading_zero word) c.1 }
  where
    not_is : (b : Bool) → not b ≡ true → b ≡ false
    not_is true e = absurd cc
    not_is false e = refl

word_number : (word : List ℕ) → IsNumberWord word → is_number_word word ≡ true
word_number word w =
    let some : nat_lt 0 (length word) ≡ true = lt_is 0 (length word) w.some in
    let few : nat_le (length word) 9 ≡ true = le_is (length word) 9 w.few in
    and_from (nat_lt 0 (length word)) (nat_le (length word) 9 && (list_all is_digit word && not (has_leading_zero word))) some
    (and_from (nat_le (length word) 9) (list_all is_digit word && not (has_leading_zero word)) few
    (and_from (list_all is_digit word) (not (has_leading_zero word)) w.digits (ap not w.lead)))
  where
    lt_is : (a b : ℕ) → a < b → nat_lt a b ≡ true
    lt_is a b lt = grind (arith, nat_tests)

    le_is : (a b : ℕ) → a ≤ b → nat_le a b ≡ true
    le_is a b le = grind (arith, nat_tests)

-- ---- the reader

below : (n : ℕ) → is_number n ≡ true → n < 10 ^ 9
below n is = grind (arith, nat_tests)

is_below : (n : ℕ) → n < 10 ^ 9 → is_number n ≡ true
is_below n lt = grind (arith, nat_tests)

decimal_digits : (n : ℕ) → is_number n ≡ true → list_all is_digit (decimal n) ≡ true
decimal_digits n is = digits_decimal model n (omega (arith, below n is))

decimal_word : (n : ℕ) → is_number n ≡ true → IsNumberWord (decimal n)
decimal_word n is =
    let small : n < 2 ^ 64 = omega (arith, below n is) in record {
      some = decimal_nonempty n small;
      few = length-decimal-le 9 n (omega arith) (below n is) small;
      digits = decimal_digits n is;
      lead = no_leading n small;
    }

word_sound : (word : List ℕ) → IsNumberWord word → (is_number (digits_value 10 word) ≡ true) × (word ≡ decimal (digits_value 10 word))
word_sound word w =
    let short : digits_value 10 word < 10 ^ 9 = digits_value_short model word 9 w.digits w.few in
    let lead : get_or word 0 0 ≡ 48 → length word ≡ 1 = λ first. omega (arith, leading word w.lead first, w.some) in
    (is_below (digits_value 10 word) short, sym (decimal-digits_value model word w.digits w.some lead (omega (arith, short))))

pub number_exact : IsExact decimal is_number number_read
unfolding number_read
number_exact = record {
  sound = λ bytes n e.
      let is = some_if_is (is_number_word bytes) (digits_value 10 bytes) n e in
      let s = word_sound bytes (number_word bytes is.0) in
      (ap is_number (sym is.1) ∙ s.0, s.1 ∙ ap decimal is.1);
  complete = λ n is.
      let word : is_number_word (decimal n) ≡ true = word_number (decimal n) (decimal_word n is) in
      rw word (ap (λ (m : ℕ). Some m) (digits_value-decimal model n (omega (arith, below n is))));
  clean = λ n is. all_implied is_digit is_line_byte (line_byte_of is_digit refl) (decimal n) (decimal_digits n is);
}

pub number_free : (n : ℕ) → is_number n ≡ true → list_all (but 32) (decimal n) ≡ true
number_free n is = all_implied is_digit (but 32) (apart is_digit 32 refl) (decimal n) (decimal_digits n is)

-- The value of the digits of a moment, and of a number of so many digits.
use Rattle.std.proofs.Common.{◌≡◌, ◌∙◌, ◌+◌, ◌-◌, ◌*◌, ◌<◌, ◌≤◌, ◌^◌, ℕ, true, ◌&&◌, refl, ap, List, [], ◌∷◌, length, get_or, take, arith}
use Rattle.std.specs.Prelude.{nat_lt, nat_le}
use Rattle.std.specs.Char.{digit_value}
use Rattle.std.specs.List.{list_all}
use Rattle.std.specs.Str.Parse.{AllDigits, digits_value}
use Rattle.std.proofs.lemmas.Bool.{and_parts}
use Rattle.std.proofs.lemmas.Bool.Decides.{nat_tests}
use Rattle.std.proofs.lemmas.Int.Digits.{digits_value_more}
use Rattle.std.proofs.lemmas.List.Sums.{AllPass-from_list_all}
use Rattle.std.proofs.lemmas.Str.{digit_value_digit}
use Rattle.std.proofs.lemmas.Str.Parse.{IsNumeralModel, digits_value-take-le, digits_value_short}
use Rattle.byte_grammar.specs.Classes.{is_digit}
use Rattle.command_options.specs.Numbers.{is_number}
use Rattle.command_options.specs.Options.{is_moment}

digit_below : (c : ℕ) → is_digit c ≡ true → digit_value c < 10
digit_below c is =
    let low : 48 ≤ c = grind (arith, nat_tests) in
    let high : c < 58 = grind (arith, nat_tests) in
    omega (arith, low, high, digit_value_digit c (low, omega (arith, high)))

all_digits : (word : List ℕ) → list_all is_digit word ≡ true → AllDigits 10 word
all_digits [] all = tt
all_digits (c ∷ cs) all = let parts = and_parts (is_digit c) (list_all is_digit cs) all in (digit_below c parts.0, all_digits cs parts.1)

plain_digits : IsNumeralModel (AllDigits 10) (digits_value 10)
plain_digits = record { to = λ ds all. all; from = λ ds all. all; same = λ ds all. refl }

short_value : (word : List ℕ) → AllDigits 10 word → length word ≤ 15 → digits_value 10 word < 10 ^ 15
short_value word all short = digits_value_short plain_digits word 15 all short

pub is_below : (word : List ℕ) → is_moment word ≡ true → digits_value 10 word < 10 ^ 15
is_below word is =
    let parts = and_parts (nat_lt 0 (length word)) (nat_le (length word) 15 && list_all is_digit word) is in
    let rest = and_parts (nat_le (length word) 15) (list_all is_digit word) parts.1 in
    let short : length word ≤ 15 = grind (arith, nat_tests) in
    short_value word (all_digits word rest.1) short

-- ---- digits one after the other

-- those of a moment
are_digits : (word : List ℕ) → is_moment word ≡ true → list_all is_digit word ≡ true
are_digits word is =
    let parts = and_parts (nat_lt 0 (length word)) (nat_le (length word) 15 && list_all is_digit word) is in
    (and_parts (nat_le (length word) 15) (list_all is_digit word) parts.1).1

module _ (word : List ℕ) (is : is_moment word ≡ true) (index : ℕ) (lt : index < length word) where
  pub digit_here : (48 ≤ get_or word index 0) × (get_or word index 0 < 58)
  digit_here =
      let own : is_digit (get_or word index 0) ≡ true = AllPass-from_list_all is_digit word (are_digits word is) index 0 lt in
      let low : 48 ≤ get_or word index 0 = grind (arith, nat_tests) in
      let high : get_or word index 0 < 58 = grind (arith, nat_tests) in
      (low, high)

  -- the value with one more
  pub value_more : digits_value 10 (take (index + 1) word) ≡ digits_value 10 (take index word) * 10 + (get_or word index 0 - 48)
  value_more =
      let here = digit_here in
      let own : digit_value (get_or word index 0) ≡ get_or word index 0 - 48 = omega (arith, digit_value_digit (get_or word index 0) (here.0, omega (arith, here.1))) in
      digits_value_more 10 word index lt ∙ ap (λ (n : ℕ). digits_value 10 (take index word) * 10 + n) own

  pub more_below : digits_value 10 (take index word) * 10 + (get_or word index 0 - 48) < 10 ^ 15
  more_below = omega (arith, value_more, digits_value-take-le 10 word (index + 1) (omega arith), is_below word is)

-- ---- numbers of other lengths

pub below_digits : (most : ℕ) (word : List ℕ) → is_number most word ≡ true → digits_value 10 word < 10 ^ most
below_digits most word is =
    let parts = and_parts (nat_lt 0 (length word)) (nat_le (length word) most && list_all is_digit word) is in
    let rest = and_parts (nat_le (length word) most) (list_all is_digit word) parts.1 in
    let short : length word ≤ most = grind (arith, nat_tests) in
    digits_value_short plain_digits word most (all_digits word rest.1) short

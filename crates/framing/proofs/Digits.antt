-- Digits that are read one after the other, and the number that they spell.
use Rattle.std.proofs.Common.{◌≡◌, ◌<◌, ◌≤◌, ◌+◌, ◌-◌, ◌*◌, ◌^◌, ℕ, suc, Bool, true, false, ◌&&◌, List, [], ◌∷◌, ◌++◌, length, get_or, take, drop, refl, sym, ap, ◌∙◌, arith, append_assoc, length-append}
use Rattle.std.specs.Prelude.{nat_lt, nat_le}
use Rattle.std.specs.Char.{digit_value}
use Rattle.std.specs.List.{list_all}
use Rattle.std.specs.Str.Parse.{AllDigits, digits_value, digits_value_after}
use Rattle.std.proofs.lemmas.Bool.{and_parts, false≢true}
use Rattle.std.proofs.lemmas.Bool.Decides.{nat_tests}
use Rattle.std.proofs.lemmas.Str.{digit_value_digit}
use Rattle.std.proofs.lemmas.Str.Parse.{IsNumeralModel, digits_value_short}
use Rattle.std.proofs.lemmas.List.Folds.{list_all-append}
use Rattle.std.proofs.Math.Seq.{split_at}
use Rattle.byte_grammar.specs.Classes.{is_digit}
use Rattle.framing.specs.declared.length.Digits.{Digits}
use Rattle.framing.specs.declared.limits.TheConstants.{MAX_LENGTH_DIGITS}
use Rattle.framing.specs.Framings.{is_length, are_accepted_lengths, first_length, lengths_of}
use Rattle.framing.specs.Laws.{IsLengthBounded}
use Rattle.framing.specs.tools.Digits.{AreDigitsOf, BeginsNoLength}

-- ---- a length

pub is_not : (b : Bool) → ¬ (b ≡ true) → b ≡ false
is_not true wrong = absurd (wrong refl)
is_not false wrong = refl

record Length (text : List ℕ) : Type 0 where
  some : 0 < length text
  few : length text ≤ MAX_LENGTH_DIGITS
  all : list_all is_digit text ≡ true

length_parts : (text : List ℕ) → is_length text ≡ true → Length text
length_parts text is =
    let parts = and_parts (nat_lt 0 (length text)) (nat_le (length text) 15 && list_all is_digit text) is in
    let rest = and_parts (nat_le (length text) 15) (list_all is_digit text) parts.1 in
    record { some = grind (arith, nat_tests); few = grind (arith, nat_tests); all = rest.1 }

-- ---- digits and one more

digit_is : (c : ℕ) → is_digit c ≡ true → (digit_value c ≡ c - 48) × (digit_value c < 10)
digit_is c is =
    let low : 48 ≤ c = grind (arith, nat_tests) in
    let high : c < 58 = grind (arith, nat_tests) in
    let value = digit_value_digit c (low, omega (arith, high)) in
    (omega (arith, value), omega (arith, low, high, value))

value_append : (n : ℕ) (a b : List ℕ) → digits_value_after 10 n (a ++ b) ≡ digits_value_after 10 (digits_value_after 10 n a) b
value_append n [] b = refl
value_append n (d ∷ a) b = value_append (n * 10 + digit_value d) a b

all_digits : (text : List ℕ) → list_all is_digit text ≡ true → AllDigits 10 text
all_digits [] all = tt
all_digits (c ∷ cs) all = let parts = and_parts (is_digit c) (list_all is_digit cs) all in ((digit_is c parts.0).1, all_digits cs parts.1)

plain_digits : IsNumeralModel (AllDigits 10) (digits_value 10)
plain_digits = record { to = λ ds all. all; from = λ ds all. all; same = λ ds all. refl }

value_below : (text : List ℕ) → list_all is_digit text ≡ true → (k : ℕ) → length text ≤ k → digits_value 10 text < 10 ^ k
value_below text all k few = digits_value_short plain_digits text k (all_digits text all) few

-- the number of fewer digits than there may be leaves room for one more
pub number_below : (text : List ℕ) (digits : Digits) → AreDigitsOf text digits → ¬ (digits.count ≡ 15) → digits.number < 10 ^ 14
number_below text digits are fewer =
    rw are.number (value_below text are.all 14 (omega (arith, are.few, are.count, fewer)))

pub one_more : (text : List ℕ) (digits : Digits) (c n : ℕ) → AreDigitsOf text digits → ¬ (digits.count ≡ 15) → is_digit c ≡ true → n ≡ c - 48
    → AreDigitsOf (text ++ c ∷ []) (record { count = digits.count + 1; number = digits.number * 10 + n })
one_more text digits c n are fewer is value = record {
  all = list_all-append is_digit text (c ∷ []) ∙ rw (are.all, is) refl;
  few = omega (arith, are.few, are.count, fewer, length-append text (c ∷ []));
  count = omega (arith, are.count, length-append text (c ∷ []));
  number = ap (λ m. m * 10 + n) are.number ∙ (ap (λ m. digits_value 10 text * 10 + m) (value ∙ sym (digit_is c is).0) ∙ sym (value_append 0 text (c ∷ [])));
}

-- ---- pieces

-- the text after which a piece's byte begins no length
pub no_length_later : (text piece : List ℕ) (i : ℕ) → i < length piece → BeginsNoLength ((text ++ take i piece) ++ get_or piece i 0 ∷ []) → BeginsNoLength (text ++ piece)
no_length_later text piece i less none more =
    let cut = split_at piece i 0 less in
    let moved : ((text ++ take i piece) ++ get_or piece i 0 ∷ []) ++ (drop (suc i) piece ++ more) ≡ (text ++ piece) ++ more =
    append_assoc (text ++ take i piece) (get_or piece i 0 ∷ []) (drop (suc i) piece ++ more)
    ∙ (append_assoc text (take i piece) (get_or piece i 0 ∷ (drop (suc i) piece ++ more))
    ∙ (ap (λ p. text ++ p) (sym (append_assoc (take i piece) (get_or piece i 0 ∷ drop (suc i) piece) more) ∙ ap (λ p. p ++ more) (sym cut))
    ∙ sym (append_assoc text piece more))) in
    sym (ap is_length moved) ∙ none (drop (suc i) piece ++ more)

-- ---- the bound of a length

lengths_below : (texts : List (List ℕ)) → are_accepted_lengths texts ≡ true → first_length texts < 10 ^ MAX_LENGTH_DIGITS
lengths_below [] are = omega arith
lengths_below (text ∷ []) are = let parts = length_parts text are in value_below text parts.all 15 parts.few
lengths_below (text ∷ (other ∷ others)) are = absurd (false≢true are)

pub is_length_bounded : IsLengthBounded
is_length_bounded head is = lengths_below (lengths_of head) is.lengths

-- The readers of a number's digits, and of a number with the byte after it, meet their texts.
use Rattle.std.proofs.Common.{cond, not, ltb, ◌==◌, ◌≡◌, ◌-◌, ◌^◌, ℕ, ◌≤◌, ◌<◌, Bool, true, false, List, [], ◌∷◌, ◌++◌, length, get_or, Ok, Err, refl, sym, ap, subst, ◌∙◌, arith, inl, inr, ◌⊎◌, codes}
use Rattle.std.proofs.lemmas.List.{append-nil, length-append}
use Rattle.std.proofs.lemmas.Bool.{cases_Bool, cases_lt, and_parts, and_from, eqb-true, eq-eqb, ltb-true}
use Rattle.std.proofs.lemmas.Bool.Decides.{nat_tests}
use Rattle.std.specs.Fmt.{decimal}
use Rattle.std.specs.Int.{IsInRange}
use Rattle.std.specs.List.{list_all}
use Rattle.std.specs.Str.{byte}
use Rattle.std.specs.Str.Parse.{digits_value}
use Rattle.std.proofs.lemmas.Fmt.{decimal_nonempty, decimal_digit, first_decimal, length-decimal-le, digits_decimal, digits_value-decimal, decimal-digits_value}
use Rattle.std.proofs.lemmas.Str.Parse.{IsDigitsTest, IsNumeralModel, numerals_by_value, digits_value_short}
use Rattle.byte_grammar.specs.Classes.{is_digit}
use Rattle.byte_grammar.specs.Language.{Begins, IsRun, starts_in}
use Rattle.byte_grammar.specs.tools.Languages.{Then, Mapped, IsByte}
use Rattle.byte_grammar.specs.Walk.{cut_at, run_length, run_read}
use Rattle.byte_grammar.specs.tools.Walks.{left, Next}
use Rattle.byte_grammar.proofs.Laws.{Meets, meets_then, meets_map, meets_same, not_err, left_less}
use Rattle.byte_grammar.proofs.LeafLaws.{meets_byte, meets_run}
use Rattle.byte_grammar.specs.declared.number.TheConstants.{MAX_NUMBER_DIGITS}
use Rattle.byte_grammar.specs.Numbers.{IsNumber}
use Rattle.byte_grammar.specs.tools.CountedWalk.{is_end, digits_read, number_read}
use Rattle.byte_grammar.specs.tools.CountedTexts.{Anything, IsNumeral, IsEndedNumber}

-- ---- digits

digit_in : (c : ℕ) → is_digit c ≡ true → IsInRange 48 57 c
digit_in c is = grind (arith, nat_tests)

digit_from : (c : ℕ) → IsInRange 48 57 c → is_digit c ≡ true
digit_from c is = grind (arith, nat_tests)

abbrev AreDigits : List ℕ → Type 0
AreDigits ds = list_all is_digit ds ≡ true

digits_test : IsDigitsTest AreDigits
digits_test = record {
  empty = refl;
  parts = λ c cs all. let both = and_parts (is_digit c) (list_all is_digit cs) all in (digit_in c both.0, both.1);
  more = λ c cs range all. and_from (is_digit c) (list_all is_digit cs) (digit_from c range) all;
}

model : IsNumeralModel AreDigits (digits_value 10)
model = numerals_by_value AreDigits digits_test

-- ---- leading zeros

abbrev is_zero : ℕ → Bool
is_zero c = c == byte "0"

-- how many digits may come
abbrev most : Bool → ℕ
most b = cond b 1 MAX_NUMBER_DIGITS

small : (n : ℕ) → IsNumber n → n < 2 ^ 64
small n is = omega (arith, is)

-- a number whose first digit is zero has no other
one_zero : (n : ℕ) → IsNumber n → get_or (decimal n) 0 0 ≡ 48 → length (decimal n) ≡ 1
one_zero n is first = elim (cases_lt 0 n) [
  | inl some ↦ absurd (omega (arith, first, first_decimal n some (small n is)))
  | inr none ↦ let e : n ≡ 0 = omega arith in ap (λ (m : ℕ). length (decimal m)) e ∙ ap (λ (y : List ℕ). length y) (decimal_digit 0 (omega arith))
]

-- the digits of a number are as many as may come
few : (n : ℕ) → IsNumber n → (x more : List ℕ) → x ++ more ≡ decimal n → (r : List ℕ) → 0 < length x → length (decimal n) ≤ most (starts_in is_zero (x ++ r))
few n is [] more e r some = absurd (omega (arith, some))
few n is (c ∷ x) more e r some = go (cases_Bool (is_zero c))
  where
    first : c ≡ get_or (decimal n) 0 0
    first = ap (λ (y : List ℕ). get_or y 0 0) e

    go : ((is_zero c ≡ true) ⊎ (is_zero c ≡ false)) → length (decimal n) ≤ most (is_zero c)
    go (inl zero) = rw zero (omega (arith, one_zero n is (sym first ∙ eqb-true c 48 zero)))
    go (inr other) = rw other (length-decimal-le 15 n (omega arith) is (small n is))

-- where the first digit is zero, no more than one may come
lead_of : (b : Bool) (v rest : List ℕ) → starts_in is_zero (v ++ rest) ≡ b → 0 < length v → length v ≤ most b → get_or v 0 0 ≡ 48 → length v ≡ 1
lead_of b [] rest is some le first = absurd (omega (arith, some))
lead_of b (c ∷ v) rest is some le first = one (sym is ∙ eq-eqb c 48 first)
  where
    one : b ≡ true → length (c ∷ v) ≡ 1
    one yes_zero = omega (arith, some, subst (λ (b : Bool). length (c ∷ v) ≤ most b) yes_zero le)

most_le : (b : Bool) → most b ≤ 15
most_le true = omega arith
most_le false = omega arith

-- ---- the digits of a number

run_of : (b : Bool) → Meets (IsRun is_digit 1 (most b)) (λ _ c. not (is_digit c)) (run_read is_digit 1 (most b))
run_of true = meets_run is_digit 1 1 (byte "0") (omega arith) refl
run_of false = meets_run is_digit 1 MAX_NUMBER_DIGITS (byte "0") (omega arith) refl

-- the digits are read where some of them come first
run_is : (y v : List ℕ) → IsNumeral y v → (x more : List ℕ) → x ++ more ≡ v → (r : List ℕ) → 0 < length x → IsRun is_digit 1 (most (starts_in is_zero (x ++ r))) y v
run_is y v h x more e r some =
    let n = digits_value 10 v in
    let digits : list_all is_digit (decimal n) ≡ true = digits_decimal model n (small n h.2) in
    record {
      same = h.0;
      passes = subst (λ (d : List ℕ). list_all is_digit d ≡ true) (sym h.1) digits;
      least = omega (arith, some, length-append x more, ap (λ (d : List ℕ). length d) e);
      most = omega (arith, few n h.2 x more (e ∙ h.1) r some, ap (λ (d : List ℕ). length d) h.1);
    }

-- what is read writes a number
numeral : (b : Bool) (bytes x v rest : List ℕ) → starts_in is_zero bytes ≡ b → bytes ≡ x ++ rest → IsRun is_digit 1 (most b) x v → IsNumeral x v
numeral b bytes x v rest is e run =
    let few : length v ≤ 15 = omega (arith, run.most, most_le b) in
    let short : digits_value 10 v < 10 ^ 15 = digits_value_short model v 15 run.passes few in
    let begins : starts_in is_zero (v ++ rest) ≡ b = ap (λ (y : List ℕ). starts_in is_zero (y ++ rest)) (sym run.same) ∙ ap (starts_in is_zero) (sym e) ∙ is in
    let some : 0 < length v = omega (arith, run.least) in
    (run.same, sym (decimal-digits_value model v run.passes some (lead_of b v rest begins some run.most) (omega (arith, short))), short)

zero_is : IsNumeral (codes "0") (codes "0")
zero_is = (refl, sym (decimal_digit 0 (omega arith)), omega arith)

run_err : (k : ℕ) (bytes : List ℕ) (n : ℕ) (b : Bool) → ltb k 1 ≡ b → cond b (Err (length bytes - k)) (cut_at k bytes) ≡ Err n → length bytes ≡ n
run_err k bytes n true is e =
    let none : k < 1 = ltb-true _ _ is in
    let count : length bytes - k ≡ n = cc in
    omega (arith, none, count)
run_err k bytes n false is e = absurd (not_err _ _ e)

meets_digits : Meets IsNumeral (λ _ c. not (is_digit c)) digits_read
unfolding digits_read run_read
meets_digits = record { ok = ok; err = err; only = only; far = far }
  where
    ok : (bytes v rest : List ℕ) → digits_read bytes ≡ Ok (v, rest) → (x : List ℕ) × (bytes ≡ x ++ rest) × IsNumeral x v
    ok bytes v rest e =
        let s = (run_of (starts_in is_zero bytes)).ok bytes v rest e in
        (s.0, s.1, numeral (starts_in is_zero bytes) bytes s.0 v rest refl s.1 s.2)

    err : (bytes : List ℕ) (n : ℕ) → digits_read bytes ≡ Err n → (x rest : List ℕ) × (bytes ≡ x ++ rest) × (length rest ≡ n) × Begins IsNumeral x
    err bytes n e = ([], bytes, refl, run_err (run_length is_digit (most (starts_in is_zero bytes)) bytes) bytes n _ refl e, (codes "0", codes "0", zero_is))

    only : (x r v : List ℕ) → IsNumeral x v → Next (λ c. not (is_digit c)) r → digits_read (x ++ r) ≡ Ok (v, r)
    only x r v h after =
        let some : 0 < length v = omega (arith, decimal_nonempty (digits_value 10 v) (small (digits_value 10 v) h.2), ap (λ (d : List ℕ). length d) h.1) in
        ap (λ (y : List ℕ). digits_read (y ++ r)) h.0
        ∙ (run_of (starts_in is_zero (v ++ r))).only v r v (run_is v v (refl, h.1, h.2) v [] (append-nil v) r some) after

    far : (x more r v : List ℕ) → IsNumeral (x ++ more) v → left (digits_read (x ++ r)) ≤ length r
    far [] more r v h = left_less (run_of (starts_in is_zero r)) r
    far (c ∷ x) more r v h = (run_of (starts_in is_zero (c ∷ x ++ r))).far (c ∷ x) more r v (run_is (c ∷ x ++ more) v h (c ∷ x) more h.0 r (omega arith))

-- ---- a number, and the byte after it

-- the byte is no digit
pub meets_number : (end : ℕ) → not (is_digit end) ≡ true → Meets (IsEndedNumber end) Anything (number_read end)
unfolding number_read
meets_number end other =
    meets_same
    (meets_then meets_digits (λ d. meets_map {G = Anything} (meets_byte (is_end end) end (eq-eqb end end refl) (λ _ _. true)) (λ (_ : ℕ). digits_value 10 d) (λ v c h. refl))
    (λ x d h. (end ∷ [], digits_value 10 d, (end, record { same = refl; passes = eq-eqb end end refl }, refl)))
    next)
    to from (λ v c h. refl)
  where
    next : (d y : List ℕ) (n : ℕ) (r : List ℕ) → Mapped (λ (_ : ℕ). digits_value 10 d) (IsByte (is_end end)) y n → Next (Anything n) r → Next (λ c. not (is_digit c)) (y ++ r)
    next d y n r h after =
        let same : y ≡ end ∷ [] = h.1.same ∙ ap (λ (c : ℕ). c ∷ []) (eqb-true _ _ h.1.passes) in
        subst (λ (y : List ℕ). Next (λ c. not (is_digit c)) (y ++ r)) (sym same) other

    to : (x : List ℕ) (n : ℕ) → Then IsNumeral (λ d. Mapped (λ (_ : ℕ). digits_value 10 d) (IsByte (is_end end))) x n → IsEndedNumber end x n
    to x n t =
        let last : t.more.0 ≡ end = eqb-true _ _ t.more.1.passes in
        let digits : t.first ≡ decimal n = t.spells.0 ∙ t.spells.1 ∙ ap decimal t.more.2 in
        (cc (t.joined, digits, t.more.1.same, last), subst IsNumber t.more.2 t.spells.2)

    from : (x : List ℕ) (n : ℕ) → IsEndedNumber end x n → Then IsNumeral (λ d. Mapped (λ (_ : ℕ). digits_value 10 d) (IsByte (is_end end))) x n
    from x n h =
        let value : digits_value 10 (decimal n) ≡ n = digits_value-decimal model n (small n h.1) in
        record {
          first = decimal n;
          second = end ∷ [];
          value = decimal n;
          joined = h.0;
          spells = (refl, ap decimal (sym value), subst IsNumber (sym value) h.1);
          more = (end, record { same = refl; passes = eq-eqb end end refl }, value);
        }

-- What the form's percent-encode set escapes: all but letters, digits and `*-._`.
use Rattle.std.proofs.Common.{◌≡◌, ℕ, ◌<◌, ◌≤◌, Bool, true, false, not, List, refl, subst, inl, inr, arith, zero-add, if◌then◌else◌}
use Rattle.std.specs.List.{list_all, flat_map, range_with_len}
use Rattle.std.proofs.lemmas.Bool.{cases_Bool, cases_lt}
use Rattle.std.proofs.lemmas.Bool.Decides.{nat_tests}
use Rattle.std.proofs.lemmas.List.Sums.{AllPass-from_list_all, list_all-from_AllPass}
use Rattle.std.proofs.lemmas.List.FromFn.{length-range_with_len, get_or-range_with_len}
use Rattle.form_urlencoded.specs.Form.{is_unchanged}
use Rattle.percent_encoding.specs.AsciiSet.{should_percent_encode}
use Rattle.percent_encoding.specs.Percent.{percent_encode, encode_byte}
use Rattle.percent_encoding.proofs.PercentLemmas.{IsEscapeByte, All-percent_encode}
use Rattle.sfv_text.specs.Range.{is_string_byte}
use Rattle.derived_values.specs.declared.query.TheConstants.{FORM_SET}
use Rattle.derived_values.specs.Query.{encoded_byte, encoded}

abbrev escapes_other : ℕ → Bool
escapes_other c =
    if should_percent_encode FORM_SET c then not (is_unchanged c) else is_unchanged c

all_other : list_all escapes_other (range_with_len 0 128) ≡ true
unfolding should_percent_encode
all_other = refl

other_below : (c : ℕ) → c < 128 → escapes_other c ≡ true
other_below c lt =
    let at = AllPass-from_list_all escapes_other (range_with_len 0 128) all_other c 0 (omega (arith, length-range_with_len 0 128)) in
    rw (get_or-range_with_len 0 128 c 0 lt, zero-add) at at

opposite : (a b : Bool) → (if a then not b else b) ≡ true → a ≡ not b
opposite true true is = absurd (cc is)
opposite true false is = refl
opposite false true is = refl
opposite false false is = absurd (cc is)

other_above : (c : ℕ) → 128 ≤ c → should_percent_encode FORM_SET c ≡ not (is_unchanged c)
unfolding should_percent_encode
other_above c le = grind (arith, nat_tests)

flips : (c : ℕ) → should_percent_encode FORM_SET c ≡ not (is_unchanged c)
flips c = elim (cases_lt c 128) [
  | inl lt ↦ opposite (should_percent_encode FORM_SET c) (is_unchanged c) (other_below c lt)
  | inr le ↦ other_above c le
]

-- one byte, encoded by the set and by the definition
same_byte : (c : ℕ) → encode_byte FORM_SET c ≡ encoded_byte c
same_byte c = rw (flips c) (elim (cases_Bool (is_unchanged c)) [
  | inl is ↦ rw is refl
  | inr other ↦ rw other refl
])

pub encoded_is : (text : List ℕ) → percent_encode FORM_SET text ≡ encoded text
unfolding percent_encode
encoded_is text = λ i. flat_map (λ c. same_byte c i) text

kept_is_printable : (c : ℕ) → should_percent_encode FORM_SET c ≡ false → is_string_byte c ≡ true
kept_is_printable c stays = grind (arith, nat_tests, flips c, stays)

escape_is_printable : (c : ℕ) → IsEscapeByte c → is_string_byte c ≡ true
escape_is_printable c escape = grind (arith, nat_tests)

pub printable : (text : List ℕ) → list_all is_string_byte (encoded text) ≡ true
printable text =
    subst (λ t. list_all is_string_byte t ≡ true) (encoded_is text) (list_all-from_AllPass is_string_byte (percent_encode FORM_SET text) (All-percent_encode (λ c. is_string_byte c ≡ true) FORM_SET text kept_is_printable escape_is_printable))

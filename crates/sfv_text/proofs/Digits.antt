-- The digits of a number, which are written from the last on.

use Rattle.std.proofs.Common.{ℕ, zero, suc, refl, ◌≡◌, ◌≤◌, ◌<◌, ◌+◌, ◌-◌, ◌*◌, ◌/◌, ◌%◌, ◌^◌, ◌++◌, ◌∷◌, [], List, length, drop, slice_set, arith, append_assoc, ap, sym, ◌∙◌}
use Rattle.std.proofs.lemmas.Grind.{drop-set_at, pow_more}
use Rattle.std.specs.Fmt.{decimal}
use Rattle.std.proofs.lemmas.Fmt.{decimal_step, decimal_digit}

-- What is left has two digits at least, so there is a place before this one.
pub is_before : (last left : ℕ) → 10 ≤ left → left < 10 ^ (last + 1) → 1 ≤ last
is_before zero left two room = absurd (omega (arith, two, room))
is_before (suc last) left two room = omega arith

pub room_before : (last left : ℕ) → 1 ≤ last → left < 10 ^ (last + 1) → left / 10 < 10 ^ (last - 1 + 1)
room_before zero left some room = absurd (omega (arith, some))
room_before (suc last) left some room =
    let same : suc last - 1 + 1 ≡ suc last = omega arith in
    let more : 10 ^ (suc last + 1) ≡ 10 ^ suc last * 10 = pow_more 10 (suc last) in
    rw same (omega (arith, room, more))

-- One more digit before those that are there.
pub digit_before : (value left last : ℕ) (digits : List ℕ) → 10 ≤ left → left < 2 ^ 64 → 1 ≤ last → last < length digits
    → decimal value ≡ decimal left ++ drop (last + 1) digits
    → decimal value ≡ decimal (left / 10) ++ drop (last - 1 + 1) (slice_set digits last (48 + left % 10))
digit_before value left last digits two fits some within is =
    is ∙ ap (λ ds. ds ++ drop (last + 1) digits) (decimal_step left two fits)
    ∙ append_assoc (decimal (left / 10)) ((48 + left % 10) ∷ []) (drop (last + 1) digits)
    ∙ ap (λ ds. decimal (left / 10) ++ ds) (sym (drop-set_at digits last (last - 1 + 1) (48 + left % 10) (omega (arith, some)) within))

-- The first digit of all.
pub digit_first : (value left last : ℕ) (digits : List ℕ) → left < 10 → last < length digits
    → decimal value ≡ decimal left ++ drop (last + 1) digits
    → drop last (slice_set digits last (48 + left)) ≡ decimal value
digit_first value left last digits one within is =
    drop-set_at digits last last (48 + left) refl within
    ∙ sym (is ∙ ap (λ ds. ds ++ drop (last + 1) digits) (decimal_digit left one))

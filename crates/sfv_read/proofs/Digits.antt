-- The value of digits, and how large it grows.
use Rattle.std.proofs.Common.{◌++◌, ◌*◌, ◌^◌, ◌≡◌, ℕ, zero, suc, ◌+◌, ◌-◌, ◌<◌, ◌≤◌, true, List, [], ◌∷◌, length, get_or, drop, refl, sym, ap, ◌∙◌, arith}
use Rattle.std.proofs.Math.Seq.{drop-cons}
use Rattle.std.specs.List.{list_all}
use Rattle.std.specs.Char.{digit_value}
use Rattle.std.specs.Int.{IsInRange}
use Rattle.std.proofs.lemmas.Str.{digit_value_digit}
use Rattle.std.proofs.lemmas.List.Sums.{AllPass-from_list_all}
use Rattle.std.proofs.lemmas.Bool.Decides.{nat_tests}
use Rattle.std.proofs.Math.Nat.{mul_assoc, pow-succ', one-le-pow, pow-le-pow_right, mul-le-mul_left, mul-le-mul_right}
use Rattle.byte_grammar.specs.Classes.{is_digit}
use Rattle.std.specs.Str.Parse.{digits_value_after}

-- one more digit
pub room_more : (total d k limit : ℕ) → d < 10 → (total + 1) * 10 ^ suc k ≤ limit → (total * 10 + d + 1) * 10 ^ k ≤ limit
room_more total d k limit small le =
    let e : (total + 1) * 10 ^ suc k ≡ ((total + 1) * 10) * 10 ^ k = ap (λ (n : ℕ). (total + 1) * n) (pow-succ' 10 k) ∙ sym (mul_assoc (total + 1) 10 (10 ^ k)) in
    let m : (total * 10 + d + 1) * 10 ^ k ≤ ((total + 1) * 10) * 10 ^ k = mul-le-mul_right (10 ^ k) (omega arith) in
    omega arith

pub room_now : (total k limit : ℕ) → (total + 1) * 10 ^ k ≤ limit → total + 1 ≤ limit
room_now total k limit le =
    let p : 1 ≤ 10 ^ k = one-le-pow k 10 (omega arith) in
    let m : (total + 1) * 1 ≤ (total + 1) * 10 ^ k = mul-le-mul_left (total + 1) p in
    omega arith

-- the value of a digit, and of the digit that is written of a number
pub digit_is : (c : ℕ) → is_digit c ≡ true → digit_value c ≡ c - 48
digit_is c is =
    let range : IsInRange 48 57 c = grind (arith, nat_tests) in
    omega (arith, digit_value_digit c range)

pub digit_of : (n : ℕ) → n < 10 → digit_value (48 + n) ≡ n
digit_of n lt =
    let range : IsInRange 48 57 (48 + n) = (omega arith, omega arith) in
    omega (arith, digit_value_digit (48 + n) range)

pub value_more : (total i : ℕ) (ds : List ℕ) → list_all is_digit ds ≡ true → i < length ds → digits_value_after 10 total (drop i ds) ≡ digits_value_after 10 (total * 10 + (get_or ds i 0 - 48)) (drop (i + 1) ds)
value_more total i ds all lt =
    let next : i + 1 ≡ suc i = omega arith in
    let is = digit_is (get_or ds i 0) (AllPass-from_list_all is_digit ds all i 0 lt) in
    rw (drop-cons ds i 0 lt, next) (ap (λ (n : ℕ). digits_value_after 10 (total * 10 + n) (drop (suc i) ds)) is)

pub digit_small : (ds : List ℕ) (i : ℕ) → list_all is_digit ds ≡ true → i < length ds → get_or ds i 0 - 48 < 10
digit_small ds i all lt = small (get_or ds i 0) (AllPass-from_list_all is_digit ds all i 0 lt)
  where
    small : (c : ℕ) → is_digit c ≡ true → c - 48 < 10
    small c is = grind (arith, nat_tests)

pub pow_room : (k : ℕ) → k ≤ 15 → 1 * 10 ^ k ≤ 1000000000000000
pow_room k le = let p : 10 ^ k ≤ 10 ^ 15 = pow-le-pow_right (omega arith) le in omega (arith, p)

twelve : (w a : ℕ) → w + 1 ≤ 1 * 10 ^ a → a ≤ 12 → w + 1 ≤ 1000000000000
twelve w a le few = let p : 10 ^ a ≤ 10 ^ 12 = pow-le-pow_right (omega arith) few in omega (arith, p, le)

pub room_two : (w a b : ℕ) → w + 1 ≤ 1 * 10 ^ a → a ≤ 12 → b ≤ 3 → (w + 1) * 10 ^ b ≤ 1000000000000000
room_two w a b le few small =
    let t = twelve w a le few in
    let p : 10 ^ b ≤ 10 ^ 3 = pow-le-pow_right (omega arith) small in
    let q : (w + 1) * 10 ^ b ≤ (w + 1) * 1000 = mul-le-mul_left (w + 1) p in
    omega (arith, q, t)

pub scaled_room : (n w a b : ℕ) → n + 1 ≤ (w + 1) * 10 ^ b → w + 1 ≤ 1 * 10 ^ a → a ≤ 12 → b ≤ 3 → n * 10 ^ (3 - b) < 1000000000000000
scaled_room n w a zero le more few small = let t = twelve w a more few in omega (arith, t, le)
scaled_room n w a (suc zero) le more few small = let t = twelve w a more few in omega (arith, t, le)
scaled_room n w a (suc (suc zero)) le more few small = let t = twelve w a more few in omega (arith, t, le)
scaled_room n w a (suc (suc (suc zero))) le more few small = let t = twelve w a more few in omega (arith, t, le)
scaled_room n w a (suc (suc (suc (suc b)))) le more few small = absurd (omega arith)

pub value_append : (n : ℕ) (a b : List ℕ) → digits_value_after 10 n (a ++ b) ≡ digits_value_after 10 (digits_value_after 10 n a) b
value_append n [] b = refl
value_append n (d ∷ a) b = value_append (n * 10 + digit_value d) a b

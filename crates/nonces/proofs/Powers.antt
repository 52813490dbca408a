-- Powers of two that reach a number, and the least of them.
use Rattle.std.proofs.Common.{◌≡◌, ◌<◌, ◌≤◌, ◌+◌, ◌*◌, ◌^◌, ℕ, zero, suc, nat_lt, inl, inr, refl, sym, ◌∙◌, ap, arith, add-one}
use Rattle.std.proofs.lemmas.Bool.{cases_Bool, ltb-false, ltb-true}
use Rattle.std.proofs.Math.Nat.{two-pow-succ}
use Rattle.std.proofs.Math.Pow.{pow_mono}
use Rattle.nonces.specs.Buckets.{IsLeastPowerOfTwo}

doubled : (e : ℕ) → 2 ^ (e + 1) ≡ 2 ^ e * 2
doubled e = let sum : 2 ^ suc e ≡ 2 ^ e + 2 ^ e = two-pow-succ e in ap (λ k. 2 ^ k) (add-one e) ∙ omega (arith, sum)

pub one_is_least : (k : ℕ) → 1 ≤ 2 ^ k
one_is_least k = let le : 0 ≤ k = omega arith in let low : 2 ^ 0 ≤ 2 ^ k = pow_mono le in low

-- a power of two below a number, doubled
pub doubled_power : (n count e : ℕ) → count ≡ 2 ^ e → count * 2 ≡ 2 ^ (e + 1)
doubled_power n count e is = ap (λ k. k * 2) is ∙ sym (doubled e)

pub doubled_least : (n count e : ℕ) → count ≡ 2 ^ e → count < n → (k : ℕ) → n ≤ 2 ^ k → count * 2 ≤ 2 ^ k
doubled_least n count e is below k reaches = elim (cases_Bool (nat_lt e k)) [
  | inl less ↦
      let le : e + 1 ≤ k = omega (arith, ltb-true e k less) in
      let up : 2 ^ (e + 1) ≤ 2 ^ k = pow_mono le in
      omega (arith, up, doubled_power n count e is)
  | inr not_less ↦
      let down : 2 ^ k ≤ 2 ^ e = pow_mono (ltb-false e k not_less) in
      absurd (omega (arith, down, is, below, reaches))
]

-- ---- the least

-- of one more it is the same, or twice as much
least_of_more : (n count : ℕ) → IsLeastPowerOfTwo n count → (more : ℕ) × IsLeastPowerOfTwo (suc n) more
least_of_more n count is = elim (cases_Bool (nat_lt n count)) [
  | inl above ↦ (
    count,
    record {
      exponent = is.exponent;
      power = is.power;
      reaches = omega (arith, ltb-true n count above);
      first = λ k reaches. is.first k (omega (arith, reaches));
    },
  )
  | inr not_above ↦
      let below : count < suc n = omega (arith, ltb-false n count not_above) in
      let some : 1 ≤ 2 ^ is.exponent = one_is_least is.exponent in (
        count * 2,
        record {
          exponent = is.exponent + 1;
          power = doubled_power n count is.exponent is.power;
          reaches = omega (arith, is.reaches, is.power, some);
          first = doubled_least (suc n) count is.exponent is.power below;
        },
      )
]

pub least_power : (n : ℕ) → (number : ℕ) × IsLeastPowerOfTwo n number
least_power zero = (1, record { exponent = 0; power = refl; reaches = omega arith; first = λ k _. one_is_least k })
least_power (suc n) = let below = least_power n in least_of_more n below.0 below.1

pub one_least_power : (n number other : ℕ) → IsLeastPowerOfTwo n number → IsLeastPowerOfTwo n other → number ≡ other
one_least_power n number other is too =
    let up : n ≤ 2 ^ too.exponent = omega (arith, too.reaches, too.power) in
    let down : n ≤ 2 ^ is.exponent = omega (arith, is.reaches, is.power) in
    omega (arith, is.first too.exponent up, too.first is.exponent down, is.power, too.power)

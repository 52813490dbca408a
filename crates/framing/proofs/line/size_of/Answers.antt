use Rattle.std.proofs.Common.{◌+◌, ◌*◌, ◌^◌, ◌<◌, ◌≤◌, ℕ, arith, pow-add}
use Rattle.std.proofs.Math.Nat.{pow-le-pow_right}
use Rattle.std.proofs.lemmas.Int.Digits.{digits_value_more}
use Rattle.framing.proofs.line.size_of.Goals as goal

-- one more digit stays below the next power
digit_more : (size digit i : ℕ) → size < 16 ^ i → digit < 16 → size * 16 + digit < 16 ^ (i + 1)
digit_more size digit i below small = omega (arith, pow-add 16 i 1)

below_top : (i : ℕ) → i < 16 → 16 ^ (i + 1) ≤ 2 ^ 64
below_top i lt = pow-le-pow_right {n = 16} (omega arith) {j = 16} (omega arith)

pub overflow_mul-size : goal.overflow_mul-size
overflow_mul-size c =
    let few : c.loop-digit.digit-index < 16 = omega (arith, c.requires.most, c.loop-digit-test.true) in
    omega (arith, digit_more c.loop-digit.size 0 c.loop-digit.digit-index c.loop-digit.invariant.below (omega arith), below_top c.loop-digit.digit-index few)

pub overflow_add-size : goal.overflow_add-size
overflow_add-size c =
    let few : c.loop-digit.digit-index < 16 = omega (arith, c.requires.most, c.loop-digit-test.true) in
    omega (arith, digit_more c.loop-digit.size c.digit_value.result c.loop-digit.digit-index c.loop-digit.invariant.below c.digit_value.ensures.below, below_top c.loop-digit.digit-index few)

pub loop-digit-preserved : goal.loop-digit-preserved
loop-digit-preserved c = record {
  value = cc (digits_value_more 16 c.args.digits.now c.loop-digit.digit-index c.loop-digit-test.true, c.loop-digit.invariant.value, c.digit_value.ensures.value);
  below = digit_more c.loop-digit.size c.digit_value.result c.loop-digit.digit-index c.loop-digit.invariant.below c.digit_value.ensures.below;
}

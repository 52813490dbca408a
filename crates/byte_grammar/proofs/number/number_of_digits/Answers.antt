use Rattle.std.proofs.Common.{◌+◌, ◌*◌, ◌^◌, ◌<◌, ◌≤◌, ℕ, arith, pow-add}
use Rattle.std.proofs.Math.Nat.{pow-le-pow_right}
use Rattle.std.proofs.lemmas.Int.Digits.{digits_value_more}
use Rattle.std.proofs.lemmas.List.Sums.{AllPass-from_list_all}
use Rattle.byte_grammar.specs.Classes.{is_digit}
use Rattle.byte_grammar.proofs.number.number_of_digits.Goals as goal

-- one more digit stays below the next power
digit_more : (number digit i : ℕ) → number < 10 ^ i → digit < 10 → number * 10 + digit < 10 ^ (i + 1)
digit_more number digit i below small = omega (arith, pow-add 10 i 1)

below_top : (i : ℕ) → i < 15 → 10 ^ (i + 1) ≤ 10 ^ 15
below_top i lt = pow-le-pow_right {n = 10} (omega arith) {j = 15} (omega arith)

pub digit_value-requires : goal.digit_value-requires
digit_value-requires c = AllPass-from_list_all is_digit c.args.digits.now c.requires.passes c.loop-digit.digit-index 0 c.loop-digit-test.true

pub overflow_mul-number : goal.overflow_mul-number
overflow_mul-number c =
    let few : c.loop-digit.digit-index < 15 = omega (arith, c.requires.most, c.loop-digit-test.true) in
    omega (arith, digit_more c.loop-digit.number 0 c.loop-digit.digit-index c.loop-digit.invariant.below (omega arith), below_top c.loop-digit.digit-index few)

pub overflow_add-number : goal.overflow_add-number
overflow_add-number c =
    let few : c.loop-digit.digit-index < 15 = omega (arith, c.requires.most, c.loop-digit-test.true) in
    omega (arith, digit_more c.loop-digit.number c.digit_value.result c.loop-digit.digit-index c.loop-digit.invariant.below c.digit_value.ensures.below, below_top c.loop-digit.digit-index few)

pub loop-digit-preserved : goal.loop-digit-preserved
loop-digit-preserved c = record {
  value = cc (digits_value_more 10 c.args.digits.now c.loop-digit.digit-index c.loop-digit-test.true, c.loop-digit.invariant.value, c.digit_value.ensures.value);
  below = digit_more c.loop-digit.number c.digit_value.result c.loop-digit.digit-index c.loop-digit.invariant.below c.digit_value.ensures.below;
}

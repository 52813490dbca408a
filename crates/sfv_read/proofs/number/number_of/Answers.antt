use Rattle.std.proofs.Common.{◌≡◌, arith, ◌+◌, ◌<◌, ◌≤◌, length, suc, ◌-◌, ◌*◌, ◌^◌, ap, sym, subst, ◌∙◌, ℕ, drop}
use Rattle.std.specs.Str.Parse.{digits_value_after}
use Rattle.sfv_read.proofs.Digits.{room_more, room_now, value_more, digit_small}
use Rattle.sfv_read.proofs.number.number_of.Goals as goal

-- nine more would still fit
ten_fits : (total k n limit : ℕ) → n ≡ suc k → (total + 1) * 10 ^ n ≤ limit → total * 10 + 10 ≤ limit
ten_fits total k n limit e le =
    omega (arith, room_now (total * 10 + 9) k limit (room_more total 9 k limit (omega arith) (subst (λ (n : ℕ). (total + 1) * 10 ^ n ≤ limit) e le)))

pub overflow_mul-total : goal.overflow_mul-total
overflow_mul-total c =
    let t = ten_fits c.loop-digit.total (length c.args.digits.now - (c.loop-digit.digit-index + 1)) _ _ (omega arith) c.loop-digit.invariant.room in
    omega (arith, t, c.requires.room)

pub overflow_add-total : goal.overflow_add-total
overflow_add-total c =
    let t = ten_fits c.loop-digit.total (length c.args.digits.now - (c.loop-digit.digit-index + 1)) _ _ (omega arith) c.loop-digit.invariant.room in
    omega (arith, t, c.requires.room, c.from.ensures, digit_small c.args.digits.now c.loop-digit.digit-index c.requires.digits c.loop-digit-test.true)

pub loop-digit-preserved : goal.loop-digit-preserved
loop-digit-preserved c =
    let small : c.from.result < 10 = omega (arith, c.from.ensures, digit_small c.args.digits.now c.loop-digit.digit-index c.requires.digits c.loop-digit-test.true) in
    let count : length c.args.digits.now - c.loop-digit.digit-index ≡ suc (length c.args.digits.now - (c.loop-digit.digit-index + 1)) = omega arith in
    record {
      value = ap (λ (n : ℕ). digits_value_after 10 (c.loop-digit.total * 10 + n) (drop (c.loop-digit.digit-index + 1) c.args.digits.now)) c.from.ensures ∙ sym (value_more c.loop-digit.total c.loop-digit.digit-index c.args.digits.now c.requires.digits c.loop-digit-test.true) ∙ c.loop-digit.invariant.value;
      room = room_more c.loop-digit.total c.from.result _ _ small (subst (λ (n : ℕ). (c.loop-digit.total + 1) * 10 ^ n ≤ (c.args.start + 1) * 10 ^ length c.args.digits.now) count c.loop-digit.invariant.room);
    }

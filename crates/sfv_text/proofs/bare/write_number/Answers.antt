use Rattle.std.proofs.Common.{◌≡◌, ◌≤◌, ◌<◌, ◌+◌, ◌-◌, ◌%◌, arith, ◌∙◌, length, drop, slice_set, take, take_all, length-drop}
use Rattle.std.proofs.lemmas.List.{length-set}
use Rattle.sfv_text.proofs.Digits.{is_before, room_before, digit_before, digit_first}
use Rattle.sfv_text.proofs.bare.write_number.Goals as goal

pub digits-preserved : goal.digits-preserved
digits-preserved c =
    let two : 10 ≤ c.digits.left = c.digits-test.true in
    let some : 1 ≤ c.digits.last = is_before c.digits.last c.digits.left two c.digits.invariant.room in
    record {
      size = length-set c.digits.digits c.digits.last (48 + c.digits.left % 10) ∙ c.digits.invariant.size;
      within = omega (arith, c.digits.invariant.within);
      room = room_before c.digits.last c.digits.left some c.digits.invariant.room;
      text = digit_before c.args.value c.digits.left c.digits.last c.digits.digits two c.digits.auto.left-fits.fits some
          (omega (arith, c.digits.invariant.size, c.digits.invariant.within)) c.digits.invariant.text;
    }

pub returns : goal.returns
returns c =
    let left = slice_set c.digits.digits c.digits.last (48 + c.digits.left) in
    let within : c.digits.last < length c.digits.digits = omega (arith, c.digits.invariant.size, c.digits.invariant.within) in
    let size : length (drop c.digits.last left) ≡ 20 - c.digits.last =
    omega (arith, length-drop c.digits.last left, length-set c.digits.digits c.digits.last (48 + c.digits.left), c.digits.invariant.size) in
    let is : take (20 - c.digits.last) (drop c.digits.last left) ≡ drop c.digits.last left = take_all (20 - c.digits.last) (drop c.digits.last left) (omega (arith, size)) in
    rw (← digit_first c.args.value c.digits.left c.digits.last c.digits.digits c.digits-test.false within c.digits.invariant.text, ← is) c.append.ensures.ok

use Rattle.std.proofs.Common.{arith, ap, sym, ◌∙◌, ◌-◌, ℕ, w64, rules, length, ◌*◌, ◌^◌}
use Rattle.std.proofs.lemmas.Int.{to_z-of_z}
use Rattle.std.specs.Str.Parse.{digits_value_after}
use Rattle.sfv_read.specs.BareItem.{with_sign}
use Rattle.sfv_read.proofs.Digits.{pow_room, room_two, scaled_room, value_append}
use Rattle.sfv_read.proofs.number.thousandths.Goals as goal

pub number_of-whole-requires-clause-room : goal.number_of-whole-requires-clause-room
number_of-whole-requires-clause-room c = pow_room (length c.args.digits.now) (omega arith)

pub number_of-number-requires-clause-room : goal.number_of-number-requires-clause-room
number_of-number-requires-clause-room c = room_two c.number_of-whole.result (length c.args.digits.now) (length c.args.part.now) c.number_of-whole.ensures.below c.requires.whole c.requires.part.most

pub to_thousandths-requires-clause-number : goal.to_thousandths-requires-clause-number
to_thousandths-requires-clause-number c =
    omega (arith, c.number_of-number.ensures.below, room_two c.number_of-whole.result (length c.args.digits.now) (length c.args.part.now) c.number_of-whole.ensures.below c.requires.whole c.requires.part.most)

pub with_sign-requires : goal.with_sign-requires
with_sign-requires c =
    omega (arith, c.to_thousandths.ensures, scaled_room c.number_of-number.result c.number_of-whole.result (length c.args.digits.now) (length c.args.part.now) c.number_of-number.ensures.below c.number_of-whole.ensures.below c.requires.whole c.requires.part.most)

pub returns : goal.returns
returns c =
    to_z-of_z w64 c.with_sign.result (search rules) ∙ c.with_sign.ensures ∙ ap (with_sign c.args.sign.now) (c.to_thousandths.ensures ∙ ap (λ (n : ℕ). n * 10 ^ (3 - length c.args.part.now))
    (c.number_of-number.ensures.value ∙ ap (λ (n : ℕ). digits_value_after 10 n c.args.part.now) c.number_of-whole.ensures.value ∙ sym (value_append 0 c.args.digits.now c.args.part.now)))

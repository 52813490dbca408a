use Rattle.std.proofs.Common.{arith, sym, ◌∙◌}
use Rattle.framing.proofs.Digits.{number_below, one_more}
use Rattle.framing.proofs.length.Digits.with_digit.Goals as goal

pub overflow_mul-result : goal.overflow_mul-result
overflow_mul-result c = omega (arith, number_below c.requires.0 c.args.self c.requires.1 c.if-self-eq-MAX_LENGTH_DIGITS.false)

pub overflow_add-result-2 : goal.overflow_add-result-2
overflow_add-result-2 c =
    omega (arith, number_below c.requires.0 c.args.self c.requires.1 c.if-self-eq-MAX_LENGTH_DIGITS.false, c.from.ensures, c.ranges.byte)

pub returns-clause-some : goal.returns-clause-some
returns-clause-some c text are =
    one_more text c.args.self c.args.byte c.from.result are c.if-self-eq-MAX_LENGTH_DIGITS.false (sym c.is_ascii_digit.ensures.value ∙ c.if-not-is_ascii_digit.false) c.from.ensures

use Rattle.std.proofs.Common.{arith, refl, sym, ◌∙◌}
use Rattle.rewrite_script.proofs.Numerals.{number_word}
use Rattle.rewrite_script.proofs.argument.number_of.Goals as goal

pub number_of_digits-requires : goal.number_of_digits-requires
number_of_digits-requires c =
    let word = number_word c.args.word.now (sym c.is_number.ensures ∙ c.if-not-is_number.false) in record {
      same = refl;
      passes = word.digits;
      least = word.some;
      most = omega (arith, word.few);
    }

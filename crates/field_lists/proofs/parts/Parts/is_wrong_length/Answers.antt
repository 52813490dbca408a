use Rattle.std.proofs.Common.{sym, ◌∙◌}
use Rattle.field_lists.proofs.Lengths.{length_digits}
use Rattle.field_lists.proofs.parts.Parts.is_wrong_length.Goals as goal

pub number_of_digits-length-requires : goal.number_of_digits-length-requires
number_of_digits-length-requires c = length_digits c.args.text.now (sym c.is_length.ensures ∙ c.if-not-is_length.false)

use Rattle.refusals.proofs.Lines.{is_line_of_refusal}
use Rattle.refusals.proofs.laws.a_refusal_is_one_line.Goals as goal

pub returns : goal.returns
returns c = is_line_of_refusal

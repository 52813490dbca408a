use Rattle.program.proofs.OneLines.{is_line_where_refused}
use Rattle.program.proofs.laws.a_refusal_is_one_line.Goals as goal

pub returns : goal.returns
returns c = is_line_where_refused

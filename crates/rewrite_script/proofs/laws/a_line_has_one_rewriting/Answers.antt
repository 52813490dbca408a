use Rattle.rewrite_script.proofs.KindLaws.{has_one_rewriting}
use Rattle.rewrite_script.proofs.laws.a_line_has_one_rewriting.Goals as goal

pub returns : goal.returns
returns c = has_one_rewriting

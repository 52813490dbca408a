use Rattle.hop_audit.proofs.LineTexts.{has_one_lf}
use Rattle.hop_audit.proofs.laws.each_line_has_one_lf.Goals as goal

pub returns : goal.returns
returns c = has_one_lf

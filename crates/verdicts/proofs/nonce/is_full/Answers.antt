use Rattle.std.proofs.Common.{◌∙◌}
use Rattle.verdicts.proofs.PolicyFailures.{full_where}
use Rattle.verdicts.proofs.nonce.is_full.Goals as goal

pub returns-in-Some : goal.returns-in-Some
returns-in-Some c = rw c.in-Some.is (c.is_full.ensures ∙ full_where c.in-Some.book.now c.keeps_limits.ensures)

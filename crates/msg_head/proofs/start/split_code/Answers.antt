use Rattle.std.proofs.Common.{sym}
use Rattle.msg_head.proofs.StatusParts.{other_code}
use Rattle.msg_head.proofs.start.split_code.Goals as goal

pub returns-in-Some-clause-none : goal.returns-in-Some-clause-none
returns-in-Some-clause-none c = other_code _ _ _ c.in-Some.ensures.some (sym c.if-is_code.ensures)

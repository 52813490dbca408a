use Rattle.std.proofs.Common.{length}
use Rattle.msg_head.proofs.Walks.{Counts}
use Rattle.msg_head.proofs.line.number_of_lines.Given as goal

abbrev pub invariant-lines : goal.invariant-lines
invariant-lines l = Counts l.text l.left l.count

abbrev pub decreases-lines : goal.decreases-lines
decreases-lines l = length l.left

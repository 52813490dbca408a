use Rattle.std.proofs.Common.{length}
use Rattle.msg_head.proofs.Spans.{Reading}
use Rattle.msg_head.proofs.line.read_lines.Given as goal

abbrev pub invariant-lines : goal.invariant-lines
invariant-lines l = Reading l.bytes l.rest l.spans.items l.left

abbrev pub decreases-lines : goal.decreases-lines
decreases-lines l = length l.left

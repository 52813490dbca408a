use Rattle.std.proofs.Common.{◌≡◌, length}
use Rattle.std.specs.Prelude.{reverse}
use Rattle.msg_head.specs.Values.{without_first_blanks}
use Rattle.msg_head.proofs.blanks.skip_last.Given as goal

abbrev pub invariant-loop-last : goal.invariant-loop-last
invariant-loop-last l = without_first_blanks (reverse l.left) ≡ without_first_blanks (reverse l.fn.text)

abbrev pub decreases-loop-last : goal.decreases-loop-last
decreases-loop-last l = length l.left

use Rattle.std.proofs.Common.{◌≡◌, ◌≤◌, length}
use Rattle.msg_head.specs.Values.{texts_of}
use Rattle.msg_head.proofs.blanks.skip_gap.Given as goal

abbrev pub invariant-gap : goal.invariant-gap
invariant-gap l = (texts_of l.left ≡ texts_of l.fn.bytes) × (length l.left ≤ length l.fn.bytes)

abbrev pub decreases-gap : goal.decreases-gap
decreases-gap l = length l.left

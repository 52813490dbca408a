use Rattle.std.proofs.Common.{length}
use Rattle.msg_head.specs.tools.Texts.{IsCleanUpTo}
use Rattle.msg_head.proofs.section.first_naked_end.Given as goal

abbrev pub invariant-pieces : goal.invariant-pieces
invariant-pieces l = IsCleanUpTo l.section l.left

abbrev pub decreases-pieces : goal.decreases-pieces
decreases-pieces l = length l.left

use Rattle.std.proofs.Common.{length}
use Rattle.msg_head.proofs.Splits.{GoesOn}
use Rattle.msg_head.proofs.line.split_folded.Given as goal

abbrev pub invariant-folds : goal.invariant-folds
invariant-folds l = GoesOn l.text l.left

abbrev pub decreases-folds : goal.decreases-folds
decreases-folds l = length l.left

use Rattle.std.proofs.Common.{length}
use Rattle.recording.specs.tools.Judged.{AreRead}
use Rattle.recording.proofs.read.skip_items.Given as goal

abbrev pub invariant-items : goal.invariant-items
invariant-items l = AreRead l.text l.last l.left

abbrev pub decreases-items : goal.decreases-items
decreases-items l = length l.left

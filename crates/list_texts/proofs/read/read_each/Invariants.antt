use Rattle.std.proofs.Common.{length}
use Rattle.list_texts.specs.tools.Judged.{AreRead}
use Rattle.list_texts.proofs.read.read_each.Given as goal

abbrev pub invariant-fields : goal.invariant-fields
invariant-fields l = AreRead l.first l.word l.bytes l.fields l.left

abbrev pub decreases-fields : goal.decreases-fields
decreases-fields l = length l.left

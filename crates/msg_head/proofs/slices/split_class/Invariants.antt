use Rattle.std.proofs.Common.{length}
use Rattle.msg_head.proofs.FirstPlaces.{ReadUpTo}
use Rattle.msg_head.proofs.slices.split_class.Given as goal

abbrev pub invariant-chunks : goal.invariant-chunks
invariant-chunks g l = ReadUpTo (g.C.ByteClass.members l.class) l.bytes l.left

abbrev pub decreases-chunks : goal.decreases-chunks
decreases-chunks g l = length l.left

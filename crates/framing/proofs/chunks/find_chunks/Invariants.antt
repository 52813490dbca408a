use Rattle.std.proofs.Common.{length}
use Rattle.framing.specs.tools.JudgedChunks.{Finding}
use Rattle.framing.proofs.chunks.find_chunks.Given as goal

abbrev pub invariant-chunks : goal.invariant-chunks
invariant-chunks l = Finding l.bytes l.count l.left l.room

abbrev pub decreases-chunks : goal.decreases-chunks
decreases-chunks l = length l.left

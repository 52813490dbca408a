use Rattle.std.proofs.Common.{take}
use Rattle.samples.specs.tools.Made.{AreRecorded}
use Rattle.samples.proofs.chain.recorded_hops.Given as goal

abbrev pub invariant-loop-count : goal.invariant-loop-count
invariant-loop-count l = AreRecorded 2 (take l.count l.hops) l.recorded

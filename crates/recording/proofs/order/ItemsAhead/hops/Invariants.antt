use Rattle.std.proofs.Common.{length, ◌-◌}
use Rattle.recording.specs.RecordedChains.{subject_meant}
use Rattle.recording.specs.tools.Ordered.{AreHopsOf}
use Rattle.recording.proofs.order.ItemsAhead.hops.Given as goal

abbrev pub invariant-loop-self : goal.invariant-loop-self
invariant-loop-self l = AreHopsOf (subject_meant l.subject) l.hops l.is_long l.fn.self l.self

abbrev pub decreases-loop-self : goal.decreases-loop-self
decreases-loop-self l = length l.self.items - l.self.taken

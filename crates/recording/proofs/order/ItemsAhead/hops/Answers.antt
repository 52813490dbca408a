use Rattle.recording.specs.RecordedChains.{subject_meant}
use Rattle.recording.proofs.HeldOrder.{hops_fail, long_hop, more_hop, says_fault}
use Rattle.recording.proofs.order.ItemsAhead.hops.Goals as goal

pub returns-in_default : goal.returns-in_default
returns-in_default c =
    says_fault (subject_meant c.args.subject) c.args.self.now c.hop.new.self c.fault.result
    (hops_fail (subject_meant c.args.subject) c.args.self.now c.loop-self.hops c.loop-self.is_long c.loop-self.self c.hop.new.self c.loop-self.invariant c.in_default.ensures.none) c.fault.ensures

pub loop-self-preserved-in-Continue-1 : goal.loop-self-preserved-in-Continue-1
loop-self-preserved-in-Continue-1 c =
    rw c.in_ok-push.ensures.ok (more_hop (subject_meant c.args.subject) c.args.self.now c.loop-self.hops c.loop-self.is_long c.loop-self.self c.hop.new.self c.in-Some.hop c.loop-self.invariant c.in-Some.ensures.some (rw c.len.ensures at c.if-len-lt-MAX_HOPS.true))

pub loop-self-preserved : goal.loop-self-preserved
loop-self-preserved c =
    long_hop (subject_meant c.args.subject) c.args.self.now c.loop-self.hops c.loop-self.is_long c.loop-self.self c.hop.new.self c.in-Some.hop c.loop-self.invariant c.in-Some.ensures.some (rw c.len.ensures at c.if-len-lt-MAX_HOPS.false)

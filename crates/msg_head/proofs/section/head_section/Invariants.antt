use Rattle.std.proofs.Common.{◌≤◌, ◌-◌, length}
use Rattle.msg_head.proofs.Ends.{NoneBeginsBefore}
use Rattle.msg_head.proofs.section.head_section.Given as goal

abbrev pub invariant-ends : goal.invariant-ends
invariant-ends l = record {
  within : l.from ≤ length l.bytes;
  none : NoneBeginsBefore l.bytes l.from;
}

abbrev pub decreases-ends : goal.decreases-ends
decreases-ends l = length l.bytes - l.from

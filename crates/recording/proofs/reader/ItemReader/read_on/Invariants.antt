use Rattle.std.proofs.Common.{◌≡◌, ◌≤◌, None}
use Rattle.recording.specs.tools.ReaderSteps.{IsGoing}
use Rattle.recording.proofs.PieceLaws.{HasReadOn, room_left}
use Rattle.recording.proofs.reader.ItemReader.read_on.Given as goal

-- no item was found, and what was read so far was needed
abbrev pub invariant-pieces : goal.invariant-pieces
invariant-pieces g l = record {
  none : l.self.item ≡ None;
  going : IsGoing l.self.stage;
  count : l.self.count ≡ l.initial.self.count;
  kept : g.S.Source.faults l.source ≡ g.S.Source.faults l.initial.source;
  unended : g.S.Source.ended l.initial.source ≡ 0 → g.S.Source.ended l.source ≡ 0;
  idle : g.S.Source.idle l.source ≤ g.S.Source.idle l.initial.source;
  reads : HasReadOn l.initial.self l.self (g.S.Source.left l.initial.source) (g.S.Source.left l.source);
}

abbrev pub decreases-pieces : goal.decreases-pieces
decreases-pieces g l = room_left l.self

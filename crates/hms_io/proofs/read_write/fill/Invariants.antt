use Rattle.std.proofs.Common.{◌≡◌, ◌+◌, ◌≤◌, length}
use Rattle.std.specs.Io.KnownBytes.{Consumes}
use Rattle.hms_io.specs.Reading.{RoseBy}
use Rattle.hms_io.proofs.read_write.fill.Given as goal

-- the text is what the source gave, and no fault came
abbrev pub invariant-reads : goal.invariant-reads
invariant-reads g l = record {
  size : length l.text + l.room ≡ l.limit + 1;
  few : g.S.Source.given l.source + l.room ≤ g.S.Source.given l.initial.source + (l.limit + 1);
  counts : RoseBy (length l.text) (g.S.Source.given l.initial.source) (g.S.Source.given l.source);
  kept : g.S.Source.faults l.source ≡ g.S.Source.faults l.initial.source;
  unended : g.S.Source.ended l.initial.source ≡ 0 → g.S.Source.ended l.source ≡ 0;
  idle : g.S.Source.idle l.source ≡ g.S.Source.idle l.initial.source;
  took : Consumes (g.S.Source.left l.initial.source) (g.S.Source.left l.source) l.text;
}

abbrev pub decreases-reads : goal.decreases-reads
decreases-reads g l = l.room

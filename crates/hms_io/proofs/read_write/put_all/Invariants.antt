use Rattle.std.proofs.Common.{◌≡◌, ◌-◌, ◌≤◌, length, take}
use Rattle.std.specs.Io.KnownBytes.{Appends}
use Rattle.hms_io.proofs.read_write.put_all.Given as goal

-- the sink took the prefix of the text, and no fault came
abbrev pub invariant-writes : goal.invariant-writes
invariant-writes g l = record {
  within : l.at ≤ length l.text;
  kept : g.K.Sink.faults l.sink ≡ g.K.Sink.faults l.initial.sink;
  idle : g.K.Sink.idle l.sink ≡ g.K.Sink.idle l.initial.sink;
  took : Appends (g.K.Sink.taken l.initial.sink) (g.K.Sink.taken l.sink) (take l.at l.text);
}

abbrev pub decreases-writes : goal.decreases-writes
decreases-writes g l = length l.text - l.at

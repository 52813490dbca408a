use Rattle.std.proofs.Common.{◌≡◌, ◌≤◌, ◌-◌}
use Rattle.recording.specs.declared.limits.TheConstants.{MAX_ITEMS}
use Rattle.gateway.proofs.ServedItems.{AreDone}
use Rattle.gateway.proofs.serving.serve_items.Given as goal

-- the items so far were read and served, no fault came, nor the end of the source, and no call was idle
abbrev pub invariant-items : goal.invariant-items
invariant-items g l = record {
  done : AreDone l.initial.stream.conf (g.S.Source.left l.initial.source) (g.S.Source.left l.source) (g.K.Sink.taken l.initial.sink) (g.K.Sink.taken l.sink) l.reader l.stream l.all_pass;
  source : g.S.Source.faults l.source ≡ g.S.Source.faults l.initial.source;
  sink : g.K.Sink.faults l.sink ≡ g.K.Sink.faults l.initial.sink;
  unended : g.S.Source.ended l.initial.source ≡ 0 → g.S.Source.ended l.source ≡ 0;
  idle_reads : g.S.Source.idle l.source ≤ g.S.Source.idle l.initial.source;
  idle_writes : g.K.Sink.idle l.sink ≤ g.K.Sink.idle l.initial.sink;
}

abbrev pub decreases-items : goal.decreases-items
decreases-items g l = MAX_ITEMS - l.reader.count

use Rattle.std.proofs.Common.{◌≡◌, ◌≤◌, ◌+◌, Bool, false, true, ◌&&◌, Result, Err, refl, sym, ap, ◌∙◌, arith}
use Rattle.recording.specs.Items.{placed}
use Rattle.gateway.specs.Served.{Serves, failed_writes}
use Rattle.gateway.specs.Streams.{stream_fault_of}
use Rattle.gateway.specs.declared.fault.StreamFault.{StreamFault}
use Rattle.gateway.proofs.ServedItems.{done_can, done_kept_sink, done_more, done_passed, done_unmet, done_unread, done_waiting, idle_at_end, idle_at_most, idle_no_more, idle_within, never_idle, none_done, reads_as}
use Rattle.gateway.proofs.WrittenParts.{as_fault}
use Rattle.gateway.proofs.serving.serve_items.Goals as goal
use Rattle.gateway.proofs.serving.serve_items.Goals.{then-all_pass, else-all_pass}

pub items-init : goal.items-init
items-init g c = record {
  done = none_done c.args.stream.now.conf (g.S.Source.left c.args.source.now) (g.K.Sink.taken c.args.sink.now) c.args.reader.now c.args.stream.now c.requires.begin c.requires.unread c.requires.gateway;
  source = refl;
  sink = refl;
  unended = λ e. e;
  idle_reads = omega arith;
  idle_writes = omega arith;
}

pub returns-in_err-next-clause-served : goal.returns-in_err-next-clause-served
returns-in_err-next-clause-served g c = λ settings is.
    as_fault (Serves c.args.stream.now.conf settings (g.S.Source.left c.args.source.now) (g.S.Source.left c.next.new.source) (g.K.Sink.taken c.args.sink.now) (g.K.Sink.taken c.items.sink))
    (stream_fault_of c.in_err-next.field-0.0) c.from_residual.result c.from_residual.ensures.1
    (done_unread _ _ _ (g.S.Source.left c.next.new.source) _ _ _ c.next.new.self _ _ c.items.invariant.done c.in_err-next.field-0.0 c.in_err-next.ensures.reads settings is)

pub serve_item-requires : goal.serve_item-requires
serve_item-requires g c =
    let reads = reads_as c.items.reader c.next.new.self (g.S.Source.left c.items.source) (g.S.Source.left c.next.new.source) c.in_ok-next.field-0 true c.if-branch.true c.in_ok-next.ensures.reads in
    done_can _ _ _ (g.S.Source.left c.next.new.source) _ _ _ c.next.new.self _ _ c.items.invariant.done (placed c.item.result) reads c.next.ensures.within c.item.ensures

pub returns-in_err-passes-clause-served : goal.returns-in_err-passes-clause-served
returns-in_err-passes-clause-served g c = λ settings is.
    let reads = reads_as c.items.reader c.next.new.self (g.S.Source.left c.items.source) (g.S.Source.left c.next.new.source) c.in_ok-next.field-0 true c.if-branch.true c.in_ok-next.ensures.reads in
    as_fault (Serves c.args.stream.now.conf settings (g.S.Source.left c.args.source.now) (g.S.Source.left c.next.new.source) (g.K.Sink.taken c.args.sink.now) (g.K.Sink.taken c.serve_item.new.sink))
    c.in_err-passes.field-0.0 c.from_residual-in_err-passes.result c.from_residual-in_err-passes.ensures.1
    (done_unmet _ _ _ (g.S.Source.left c.next.new.source) _ _ _ c.next.new.self _ _ c.items.invariant.done (placed c.item.result) reads c.next.ensures.within c.item.ensures c.serve_item.new.stream (g.K.Sink.taken c.serve_item.new.sink) c.in_err-passes.field-0.0 c.in_err-passes.ensures.meets settings is)

pub items-preserved : goal.items-preserved
items-preserved g c =
    let reads = reads_as c.items.reader c.next.new.self (g.S.Source.left c.items.source) (g.S.Source.left c.next.new.source) c.in_ok-next.field-0 true c.if-branch.true c.in_ok-next.ensures.reads in
    let both : c.if-all_pass.all_pass ≡ (c.items.all_pass && c.in_ok-passes.passes) = elim c.if-all_pass.branch [
      | then-all_pass w ↦ w.all_pass-is ∙ ap (λ (b : Bool). b && c.in_ok-passes.passes) (sym w.if-all_pass.true)
      | else-all_pass w ↦ w.all_pass-is ∙ (w.if-all_pass.false ∙ ap (λ (b : Bool). b && c.in_ok-passes.passes) (sym w.if-all_pass.false))
    ] in
    record {
      done = done_more _ _ _ (g.S.Source.left c.next.new.source) _ _ _ c.next.new.self _ _ c.items.invariant.done (placed c.item.result) reads c.next.ensures.within c.item.ensures c.serve_item.new.stream (g.K.Sink.taken c.serve_item.new.sink) c.in_ok-passes.passes c.if-all_pass.all_pass both c.in_ok-passes.ensures.meets;
      source = c.in_ok-next.ensures.faults ∙ c.items.invariant.source;
      sink = done_kept_sink _ _ _ (g.S.Source.left c.next.new.source) _ _ _ c.next.new.self _ _ c.items.invariant.done (placed c.item.result) reads c.next.ensures.within c.item.ensures c.serve_item.new.stream (g.K.Sink.taken c.serve_item.new.sink) (g.K.Sink.faults c.items.sink) (g.K.Sink.faults c.serve_item.new.sink) c.in_ok-passes.passes c.in_ok-passes.ensures.faults ∙ c.items.invariant.sink;
      unended = λ e. c.in_ok-next.ensures.unended c.if-branch.true (c.items.invariant.unended e);
      idle_reads = never_idle (g.S.Source.idle c.args.source.now) (g.S.Source.idle c.items.source) (g.S.Source.idle c.next.new.source) c.in_ok-next.field-0 c.items.invariant.idle_reads c.if-branch.true c.in_ok-next.ensures.idle;
      idle_writes = idle_no_more (g.K.Sink.idle c.args.sink.now) (g.K.Sink.idle c.items.sink) (g.K.Sink.idle c.serve_item.new.sink) c.items.invariant.idle_writes c.in_ok-passes.ensures.idle;
    }

pub returns-in_err-finish-clause-served : goal.returns-in_err-finish-clause-served
returns-in_err-finish-clause-served g c = λ settings is.
    let reads = reads_as c.items.reader c.next.new.self (g.S.Source.left c.items.source) (g.S.Source.left c.next.new.source) c.in_ok-next.field-0 false c.if-branch.false c.in_ok-next.ensures.reads in
    as_fault (Serves c.args.stream.now.conf settings (g.S.Source.left c.args.source.now) (g.S.Source.left c.next.new.source) (g.K.Sink.taken c.args.sink.now) (g.K.Sink.taken c.items.sink))
    c.in_err-finish.field-0.0 c.from_residual-in_err-finish.result c.from_residual-in_err-finish.ensures.1
    (done_waiting _ _ _ (g.S.Source.left c.next.new.source) _ _ _ c.next.new.self _ _ c.items.invariant.done c.in_err-finish.field-0.0 reads c.in_err-finish.ensures settings is)

pub returns-clause-served : goal.returns-clause-served
returns-clause-served g c = λ settings is.
    let reads = reads_as c.items.reader c.next.new.self (g.S.Source.left c.items.source) (g.S.Source.left c.next.new.source) c.in_ok-next.field-0 false c.if-branch.false c.in_ok-next.ensures.reads in
    done_passed _ _ _ (g.S.Source.left c.next.new.source) _ _ _ c.next.new.self _ _ c.items.invariant.done reads c.in_ok-finish.ensures settings is

-- ---- calls that are idle

pub returns-in_err-next-clause-idle_reads : goal.returns-in_err-next-clause-idle_reads
returns-in_err-next-clause-idle_reads g c =
    idle_at_most (g.S.Source.idle c.args.source.now) (g.S.Source.idle c.items.source) (g.S.Source.idle c.next.new.source) 1 c.items.invariant.idle_reads c.in_err-next.ensures.idle

pub returns-in_err-next-clause-idle_writes : goal.returns-in_err-next-clause-idle_writes
returns-in_err-next-clause-idle_writes g c =
    idle_within (g.K.Sink.idle c.args.sink.now) (g.K.Sink.idle c.items.sink) (failed_writes c.from_residual.result) c.items.invariant.idle_writes

pub returns-in_err-passes-clause-idle_reads : goal.returns-in_err-passes-clause-idle_reads
returns-in_err-passes-clause-idle_reads g c =
    let none = never_idle (g.S.Source.idle c.args.source.now) (g.S.Source.idle c.items.source) (g.S.Source.idle c.next.new.source) c.in_ok-next.field-0 c.items.invariant.idle_reads c.if-branch.true c.in_ok-next.ensures.idle in
    idle_within (g.S.Source.idle c.args.source.now) (g.S.Source.idle c.next.new.source) 1 none

pub returns-in_err-passes-clause-idle_writes : goal.returns-in_err-passes-clause-idle_writes
returns-in_err-passes-clause-idle_writes g c =
    as_fault (λ (r : Result Bool StreamFault). g.K.Sink.idle c.serve_item.new.sink ≤ g.K.Sink.idle c.args.sink.now + failed_writes r) c.in_err-passes.field-0.0 c.from_residual-in_err-passes.result
    c.from_residual-in_err-passes.ensures.1
    (idle_at_most (g.K.Sink.idle c.args.sink.now) (g.K.Sink.idle c.items.sink) (g.K.Sink.idle c.serve_item.new.sink) (failed_writes (Err c.in_err-passes.field-0.0)) c.items.invariant.idle_writes c.in_err-passes.ensures.idle)

pub returns-in_err-finish-clause-idle_reads : goal.returns-in_err-finish-clause-idle_reads
returns-in_err-finish-clause-idle_reads g c =
    idle_at_end (g.S.Source.idle c.args.source.now) (g.S.Source.idle c.items.source) (g.S.Source.idle c.next.new.source) c.in_ok-next.field-0 c.items.invariant.idle_reads c.if-branch.false c.in_ok-next.ensures.idle

pub returns-in_err-finish-clause-idle_writes : goal.returns-in_err-finish-clause-idle_writes
returns-in_err-finish-clause-idle_writes g c =
    idle_within (g.K.Sink.idle c.args.sink.now) (g.K.Sink.idle c.items.sink) (failed_writes c.from_residual-in_err-finish.result) c.items.invariant.idle_writes

pub returns-clause-idle_reads : goal.returns-clause-idle_reads
returns-clause-idle_reads g c =
    idle_at_end (g.S.Source.idle c.args.source.now) (g.S.Source.idle c.items.source) (g.S.Source.idle c.next.new.source) c.in_ok-next.field-0 c.items.invariant.idle_reads c.if-branch.false c.in_ok-next.ensures.idle

pub returns-clause-idle_writes : goal.returns-clause-idle_writes
returns-clause-idle_writes g c = idle_within (g.K.Sink.idle c.args.sink.now) (g.K.Sink.idle c.items.sink) 0 c.items.invariant.idle_writes

use Rattle.std.proofs.Common.{Err}
use Rattle.program.proofs.StreamRuns.{sink_unserved, source_unserved}
use Rattle.program.proofs.over_stream.serve_source.Goals as goal

pub returns-in-Err-clause-ends : goal.returns-in-Err-clause-ends
returns-in-Err-clause-ends g c = λ settings is. record {
  served = Err c.in-Err.fault;
  between = g.K.Sink.taken c.serve.new.sink;
  serves = c.in-Err.ensures.served settings is;
  after = c.end_unserved.ensures.ends;
}

pub returns-in-Err-clause-writes : goal.returns-in-Err-clause-writes
returns-in-Err-clause-writes g c =
    sink_unserved c.in-Err.fault (g.K.Sink.faults c.args.out.now) (g.K.Sink.faults c.serve.new.sink) (g.K.Sink.faults c.end_unserved.new.out) c.end_unserved.result.status
    c.in-Err.ensures.sink_later c.in-Err.ensures.sink c.end_unserved.ensures.writes

pub returns-in-Err-clause-reads : goal.returns-in-Err-clause-reads
returns-in-Err-clause-reads g c =
    source_unserved c.in-Err.fault (g.S.Source.faults c.args.source.now) (g.S.Source.faults c.serve.new.source) (g.K.Sink.taken c.serve.new.sink) (g.K.Sink.taken c.end_unserved.new.out)
    c.end_unserved.result.status c.end_unserved.result.refusal c.in-Err.ensures.source_later c.in-Err.ensures.source c.end_unserved.ensures.ends

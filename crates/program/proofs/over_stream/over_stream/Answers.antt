use Rattle.std.proofs.Common.{◌≡◌, ℕ, refl}
use Rattle.std.proofs.Math.Nat.{le_refl}
use Rattle.conf.specs.ConfMeaning.{meaning}
use Rattle.command_line.specs.Command.{gateway_words}
use Rattle.program.proofs.FaultCounts.{shelf_counts}
use Rattle.program.proofs.StreamRuns.{conf_served, conf_stopped, reads_served}
use Rattle.program.proofs.WrittenOutcomes.{reads_stopped}
use Rattle.program.proofs.over_stream.over_stream.Goals as goal

pub serve_source-ended-requires-clause-sign : goal.serve_source-ended-requires-clause-sign
serve_source-ended-requires-clause-sign g c = c.in-Ok.ensures.ok.holds.tables.1

pub serve_source-ended-requires-clause-gateway : goal.serve_source-ended-requires-clause-gateway
serve_source-ended-requires-clause-gateway g c = c.in-Ok.ensures.ok.holds.tables.0

pub returns-in-Ok-clause-ends : goal.returns-in-Ok-clause-ends
returns-in-Ok-clause-ends g c =
    conf_served (gateway_words c.args.words.now) (g.F.Shelf.files c.args.shelf.now) (c.serve_source-ended.new.source ≡ c.args.source.now) (g.S.Source.left c.args.source.now) (g.S.Source.left c.serve_source-ended.new.source)
    (g.K.Sink.taken c.args.out.now) (g.K.Sink.taken c.serve_source-ended.new.out) c.serve_source-ended.result.status c.serve_source-ended.result.refusal (meaning c.in-Ok.conf) c.in-Ok.ensures.ok c.serve_source-ended.ensures.ends

pub returns-in-Ok-clause-reads : goal.returns-in-Ok-clause-reads
returns-in-Ok-clause-reads g c =
    reads_served (c.serve_source-ended.new.source ≡ c.args.source.now) c.serve_source-ended.result.status (g.F.Shelf.faults c.args.shelf.now) (g.F.Shelf.faults c.read_needed.new.shelf)
    (g.S.Source.faults c.args.source.now) (g.S.Source.faults c.serve_source-ended.new.source) c.in-Ok.ensures.cause c.serve_source-ended.ensures.reads

pub returns-in-Err-clause-ends : goal.returns-in-Err-clause-ends
returns-in-Err-clause-ends g c =
    conf_stopped (gateway_words c.args.words.now) (g.F.Shelf.files c.args.shelf.now) (c.args.source.now ≡ c.args.source.now) (g.S.Source.left c.args.source.now) (g.S.Source.left c.args.source.now)
    (g.K.Sink.taken c.args.out.now) (g.K.Sink.taken c.end_stopped.new.out) c.end_stopped.result.status c.end_stopped.result.refusal c.in-Err.stop refl c.in-Err.ensures.refused c.end_stopped.ensures.ends

pub returns-in-Err-clause-reads : goal.returns-in-Err-clause-reads
returns-in-Err-clause-reads g c =
    reads_stopped (c.args.source.now ≡ c.args.source.now) c.in-Err.stop (g.K.Sink.taken c.args.out.now) (g.K.Sink.taken c.end_stopped.new.out) c.end_stopped.result.status c.end_stopped.result.refusal
    (g.F.Shelf.faults c.args.shelf.now) (g.F.Shelf.faults c.read_needed.new.shelf) (g.S.Source.faults c.args.source.now) (g.S.Source.faults c.args.source.now) c.end_stopped.ensures.ends
    (shelf_counts ℕ (c.args.source.now ≡ c.args.source.now) (g.F.Shelf.faults c.args.shelf.now) (g.F.Shelf.faults c.args.shelf.now) (g.F.Shelf.faults c.read_needed.new.shelf) (g.S.Source.faults c.args.source.now) c.in-Err.stop refl c.in-Err.ensures.cause refl)
    c.in-Err.ensures.later (le_refl (g.S.Source.faults c.args.source.now))

pub returns-in-Ok-clause-files : goal.returns-in-Ok-clause-files
returns-in-Ok-clause-files g c = c.in-Ok.ensures.asks.keeps

pub returns-in-Ok-clause-asked : goal.returns-in-Ok-clause-asked
returns-in-Ok-clause-asked g c = c.in-Ok.ensures.asks.asks

pub returns-in-Ok-clause-reached : goal.returns-in-Ok-clause-reached
returns-in-Ok-clause-reached g c = c.in-Ok.ensures.asks.reaches

pub returns-in-Err-clause-files : goal.returns-in-Err-clause-files
returns-in-Err-clause-files g c = c.in-Err.ensures.asks.keeps

pub returns-in-Err-clause-asked : goal.returns-in-Err-clause-asked
returns-in-Err-clause-asked g c = c.in-Err.ensures.asks.asks

pub returns-in-Err-clause-reached : goal.returns-in-Err-clause-reached
returns-in-Err-clause-reached g c = c.in-Err.ensures.asks.reaches

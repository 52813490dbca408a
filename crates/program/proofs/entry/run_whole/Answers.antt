use Rattle.std.proofs.Common.{◌≡◌, map, string_bytes}
use Rattle.program.specs.Ends.{HasReport}
use Rattle.program.proofs.AskedFiles.{asks_stopped, asks_written}
use Rattle.program.proofs.WrittenOutcomes.{ends_stopped, ends_written, no_command_stopped, reads_stopped, reads_written, why_stopped, why_written}
use Rattle.program.proofs.entry.run_whole.Goals as goal

-- ---- an outcome

pub returns-in-Ok-clause-ends : goal.returns-in-Ok-clause-ends
returns-in-Ok-clause-ends g c =
    ends_written (map string_bytes c.args.arguments.now) (g.F.Shelf.files c.args.shelf.now) (c.run_command.new.source ≡ c.args.source.now) (g.S.Source.left c.args.source.now) (g.S.Source.left c.run_command.new.source)
    (g.K.Sink.taken c.args.out.now) (g.K.Sink.taken c.write_outcome.new.out) c.in-Ok.outcome c.write_outcome.result.status c.write_outcome.result.refusal (c.in-Ok.ensures.report) c.write_outcome.ensures.ends

pub returns-in-Ok-clause-why : goal.returns-in-Ok-clause-why
returns-in-Ok-clause-why g c =
    why_written (HasReport (map string_bytes c.args.arguments.now) (g.F.Shelf.files c.args.shelf.now) (c.run_command.new.source ≡ c.args.source.now) (g.S.Source.left c.args.source.now) (g.S.Source.left c.run_command.new.source))
    (g.K.Sink.taken c.args.out.now) (g.K.Sink.taken c.write_outcome.new.out) c.in-Ok.outcome c.write_outcome.result.status c.write_outcome.result.refusal (c.in-Ok.ensures.report) c.write_outcome.ensures.ends

pub returns-in-Ok-clause-reads : goal.returns-in-Ok-clause-reads
returns-in-Ok-clause-reads g c =
    reads_written (c.run_command.new.source ≡ c.args.source.now) c.in-Ok.outcome (g.K.Sink.taken c.args.out.now) (g.K.Sink.taken c.write_outcome.new.out) c.write_outcome.result.status c.write_outcome.result.refusal (g.F.Shelf.faults c.args.shelf.now) (g.F.Shelf.faults c.run_command.new.shelf)
    (g.S.Source.faults c.args.source.now) (g.S.Source.faults c.run_command.new.source) c.write_outcome.ensures.ends (c.in-Ok.ensures.cause)

pub returns-in-Ok-clause-asked : goal.returns-in-Ok-clause-asked
returns-in-Ok-clause-asked g c =
    let asks = c.in-Ok.ensures.asked in
    asks_written (map string_bytes c.args.arguments.now) c.in-Ok.outcome (g.K.Sink.taken c.args.out.now) (g.K.Sink.taken c.write_outcome.new.out) c.write_outcome.result.status c.write_outcome.result.refusal
    (g.F.Shelf.asked c.args.shelf.now) (g.F.Shelf.asked c.run_command.new.shelf) c.write_outcome.ensures.ends asks.until asks.most

-- ---- a run that is stopped

pub returns-in-Err-clause-ends : goal.returns-in-Err-clause-ends
returns-in-Err-clause-ends g c =
    ends_stopped (map string_bytes c.args.arguments.now) (g.F.Shelf.files c.args.shelf.now) (c.run_command.new.source ≡ c.args.source.now) (g.S.Source.left c.args.source.now) (g.S.Source.left c.run_command.new.source)
    (g.K.Sink.taken c.args.out.now) (g.K.Sink.taken c.end_stopped.new.out) c.in-Err.stop c.end_stopped.result.status c.end_stopped.result.refusal c.in-Err.ensures.report c.end_stopped.ensures.ends

pub returns-in-Err-clause-why : goal.returns-in-Err-clause-why
returns-in-Err-clause-why g c =
    why_stopped (HasReport (map string_bytes c.args.arguments.now) (g.F.Shelf.files c.args.shelf.now) (c.run_command.new.source ≡ c.args.source.now) (g.S.Source.left c.args.source.now) (g.S.Source.left c.run_command.new.source))
    (g.K.Sink.taken c.args.out.now) (g.K.Sink.taken c.end_stopped.new.out) c.in-Err.stop c.end_stopped.result.status c.end_stopped.result.refusal c.in-Err.ensures.report c.end_stopped.ensures.ends

pub returns-in-Err-clause-refused : goal.returns-in-Err-clause-refused
returns-in-Err-clause-refused g c = λ none.
    no_command_stopped c.in-Err.stop (g.K.Sink.taken c.args.out.now) (g.K.Sink.taken c.end_stopped.new.out) c.end_stopped.result.status c.end_stopped.result.refusal (cc (c.in-Err.ensures.refused none)) c.end_stopped.ensures.ends

pub returns-in-Err-clause-reads : goal.returns-in-Err-clause-reads
returns-in-Err-clause-reads g c =
    reads_stopped (c.run_command.new.source ≡ c.args.source.now) c.in-Err.stop (g.K.Sink.taken c.args.out.now) (g.K.Sink.taken c.end_stopped.new.out) c.end_stopped.result.status c.end_stopped.result.refusal
    (g.F.Shelf.faults c.args.shelf.now) (g.F.Shelf.faults c.run_command.new.shelf) (g.S.Source.faults c.args.source.now) (g.S.Source.faults c.run_command.new.source)
    c.end_stopped.ensures.ends c.in-Err.ensures.cause c.in-Err.ensures.shelf_later c.in-Err.ensures.source_later

pub returns-in-Err-clause-asked : goal.returns-in-Err-clause-asked
returns-in-Err-clause-asked g c =
    asks_stopped (map string_bytes c.args.arguments.now) c.in-Err.stop (g.K.Sink.taken c.args.out.now) (g.K.Sink.taken c.end_stopped.new.out) c.end_stopped.result.status c.end_stopped.result.refusal
    (g.F.Shelf.asked c.args.shelf.now) (g.F.Shelf.asked c.run_command.new.shelf) c.end_stopped.ensures.ends c.in-Err.ensures.asked

use Rattle.std.proofs.Common.{◌≡◌, ◌≤◌, ◌+◌, arith}
use Rattle.gateway.specs.RecordTexts.{record_line, record_text}
use Rattle.gateway.specs.declared.fault.StreamFault.TheVariants.{NotWritten}
use Rattle.gateway.specs.tools.HeldStreams.{WritesText}
use Rattle.gateway.proofs.WrittenParts.{appended_alone, as_fault, failed_end, failed_message, failed_once}
use Rattle.gateway.proofs.record_text.write_record.Goals as goal

pub returns-in_err-put_all-2-clause-writes : goal.returns-in_err-put_all-2-clause-writes
returns-in_err-put_all-2-clause-writes g c =
    let line_is : c.bytes.result.now ≡ record_line c.args.answer.now = appended_alone _ _ _ _ c.bytes.ensures c.in_ok-append_line.ensures c.new-line.ensures in
    as_fault (WritesText (record_text c.args.answer.now) (g.K.Sink.taken c.args.sink.now) (g.K.Sink.taken c.put_all-in-Pass.new.sink)) NotWritten c.from_residual-in_err-put_all-2.result
    c.from_residual-in_err-put_all-2.ensures.1
    (failed_message c.args.answer.now c.in-Pass.index c.in-Pass.label c.in-Pass.message c.bytes.result.now c.bytes-in-Pass.result.now (g.K.Sink.taken c.args.sink.now) (g.K.Sink.taken c.put_all.new.sink)
    (g.K.Sink.taken c.put_all-in-Pass.new.sink) c.in-Pass.is line_is c.bytes-in-Pass.ensures c.in_ok-put_all.ensures.ok c.in_err-put_all-2.ensures.prefix)

pub returns-in_err-put_all-3-clause-writes : goal.returns-in_err-put_all-3-clause-writes
returns-in_err-put_all-3-clause-writes g c =
    let line_is : c.bytes.result.now ≡ record_line c.args.answer.now = appended_alone _ _ _ _ c.bytes.ensures c.in_ok-append_line.ensures c.new-line.ensures in
    as_fault (WritesText (record_text c.args.answer.now) (g.K.Sink.taken c.args.sink.now) (g.K.Sink.taken c.put_all-in-Pass-2.new.sink)) NotWritten c.from_residual-in_err-put_all-3.result
    c.from_residual-in_err-put_all-3.ensures.1
    (failed_end c.args.answer.now c.in-Pass.index c.in-Pass.label c.in-Pass.message c.bytes.result.now c.bytes-in-Pass.result.now (g.K.Sink.taken c.args.sink.now) (g.K.Sink.taken c.put_all.new.sink)
    (g.K.Sink.taken c.put_all-in-Pass.new.sink) (g.K.Sink.taken c.put_all-in-Pass-2.new.sink) c.in-Pass.is line_is c.bytes-in-Pass.ensures c.in_ok-put_all.ensures.ok c.in_ok-put_all-2.ensures.ok
    c.in_err-put_all-3.ensures.prefix)

-- ---- calls that are idle

pub returns-in_err-put_all-clause-idle : goal.returns-in_err-put_all-clause-idle
returns-in_err-put_all-clause-idle g c =
    failed_once (g.K.Sink.idle c.args.sink.now) (g.K.Sink.idle c.put_all.new.sink) c.from_residual-in_err-put_all.result c.from_residual-in_err-put_all.ensures.1 c.in_err-put_all.ensures.idle

pub returns-in_err-put_all-2-clause-idle : goal.returns-in_err-put_all-2-clause-idle
returns-in_err-put_all-2-clause-idle g c =
    let idle = g.K.Sink.idle in
    let once : idle c.put_all-in-Pass.new.sink ≤ idle c.args.sink.now + 1 = omega (arith, c.in_ok-put_all.ensures.idle, c.in_err-put_all-2.ensures.idle) in
    failed_once (idle c.args.sink.now) (idle c.put_all-in-Pass.new.sink) c.from_residual-in_err-put_all-2.result c.from_residual-in_err-put_all-2.ensures.1 once

pub returns-in_err-put_all-3-clause-idle : goal.returns-in_err-put_all-3-clause-idle
returns-in_err-put_all-3-clause-idle g c =
    let idle = g.K.Sink.idle in
    let once : idle c.put_all-in-Pass-2.new.sink ≤ idle c.args.sink.now + 1 = omega (arith, c.in_ok-put_all.ensures.idle, c.in_ok-put_all-2.ensures.idle, c.in_err-put_all-3.ensures.idle) in
    failed_once (idle c.args.sink.now) (idle c.put_all-in-Pass-2.new.sink) c.from_residual-in_err-put_all-3.result c.from_residual-in_err-put_all-3.ensures.1 once

use Rattle.std.proofs.Common.{Option, Ok, subst}
use Rattle.recording.specs.Items.{placed}
use Rattle.gateway.specs.declared.gateway_record.GatewayRecord.{GatewayRecord}
use Rattle.gateway.specs.tools.HeldStreams.{SaysItemMet}
use Rattle.gateway.proofs.WrittenParts.{met_written}
use Rattle.gateway.proofs.serving.serve_item.Goals as goal

pub returns-in-Some-clause-meets : goal.returns-in-Some-clause-meets
returns-in-Some-clause-meets g c = λ settings is.
    let met = subst (λ (o : Option GatewayRecord). SaysItemMet settings c.args.stream.now c.meet.new.self (placed c.args.item) (Ok o)) c.in-Some.is (c.in_ok-answer.ensures.met settings is) in
    met_written settings c.args.stream.now c.meet.new.self (placed c.args.item) c.in-Some.answer (g.K.Sink.taken c.args.sink.now) (g.K.Sink.taken c.write_record-passes.new.sink) c.write_record-passes.result met
    c.write_record-passes.ensures.writes c.write_record-passes.ensures.passes

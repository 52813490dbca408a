use Rattle.std.proofs.Common.{Option, Result, sym, subst}
use Rattle.msg_body.specs.Messages.{Message}
use Rattle.msg_body.specs.Views.{MessageParts}
use Rattle.gateway.specs.Arrivals.{IsAnswered, arrival_of}
use Rattle.gateway.specs.tools.Judged.{SaysRelated, related_read}
use Rattle.gateway.specs.declared.gateway_record.BadFault.{BadFault}
use Rattle.gateway.proofs.Stepping.{related_same}
use Rattle.gateway.proofs.gateway.Gateway.judge_arrival.Goals as goal

pub judge_read-requires-clause-answers : goal.judge_read-requires-clause-answers
judge_read-requires-clause-answers g c =
    let arrival = arrival_of c.args.arrival in
    let answers = subst (λ (r : Result (Option MessageParts) BadFault). SaysRelated arrival (related_read r)) c.in-Ok.is c.in_ok-related.ensures in
    subst (λ (r : Option Message). IsAnswered arrival.related r) (sym (related_same c.as_ref.result c.in-Ok.related c.as_ref.ensures.value)) answers

use Rattle.std.proofs.Common.{◌≡◌, ◌≢◌, ◌∙◌, Bor, refl, sym, ap, subst}
use Rattle.std.specs.Prelude.{option_map}
use Rattle.msg_body.specs.Views.{MessageParts, message_of}
use Rattle.msg_body.specs.WholeTexts.{out_of_memory}
use Rattle.msg_body.specs.declared.error.MessageFault.{MessageFault}
use Rattle.signatures.specs.Contexts.{context_for}
use Rattle.signatures.specs.Exchanges.{ExchangeState}
use Rattle.gateway.specs.Arrivals.{IsBad, arrival_of}
use Rattle.gateway.specs.Records.{GatewayState}
use Rattle.gateway.specs.tools.Judged.{IsOutcome, IsOutcomeOf}
use Rattle.gateway.specs.declared.gateway.Outcome.{Outcome}
use Rattle.gateway.specs.declared.gateway_record.BadFault.TheVariants.{Message as BadMessage}
use Rattle.gateway.proofs.Stepping.{bad_of, bad_outcome, ok_more, read_of}
use Rattle.gateway.proofs.gateway.Gateway.judge_read.Goals as goal

pub returns-in-Ok-clause-is : goal.returns-in-Ok-clause-is
returns-in-Ok-clause-is g c = λ settings is.
    let state = c.args.self.now in
    let arrival = arrival_of c.args.arrival in
    let related = option_map (λ (view : Bor MessageParts). message_of view.now) c.args.related in
    let message = message_of c.in-Ok.message in
    let context = c.of-exchange.result.context in
    let conf = ap (λ (s : GatewayState). s.conf) c.self.view_is in
    let context_is : context ≡ context_for state.conf message related = ap (λ (e : ExchangeState). e.context) c.of-exchange.ensures ∙ ap (λ x. context_for x message related) conf in
    let read = read_of state.conf arrival related c.reading_of-reading.result c.text.result.now message context c.requires.answers c.reading_of-reading.ensures c.text.ensures c.in-Ok.ensures.whole context_is in
    ok_more (IsOutcomeOf settings state context) (IsOutcome settings state arrival) c.judge_message.result (λ outcome says. says arrival read) (c.judge_message.ensures.is settings is)

pub returns-in_ok-bad_fault-in-Err-clause-is : goal.returns-in_ok-bad_fault-in-Err-clause-is
returns-in_ok-bad_fault-in-Err-clause-is g c = λ settings is.
    let state = c.args.self.now in
    let arrival = arrival_of c.args.arrival in
    let related = option_map (λ (view : Bor MessageParts). message_of view.now) c.args.related in
    let fault = c.in-Err.fault in
    let own = c.in_ok-bad_fault-in-Err.ensures.same in
    let known : fault ≢ out_of_memory = λ none. own.1 (own.0 ∙ none) in
    let faulty = (c.in-Err.ensures.fault fault known).only refl in
    let bad = bad_of arrival related c.reading_of-reading.result c.text.result.now fault c.requires.answers c.reading_of-reading.ensures c.text.ensures faulty in
    let told = subst (λ (f : MessageFault). IsBad arrival (BadMessage f)) (sym own.0) bad in
    subst (λ (o : Outcome). IsOutcome settings state arrival o) (sym c.refused.ensures)
    (bad_outcome settings state c.self.inside.count (ap (λ (s : GatewayState). s.count) c.self.view_is) arrival (BadMessage c.in_ok-bad_fault-in-Err.field-0) told)

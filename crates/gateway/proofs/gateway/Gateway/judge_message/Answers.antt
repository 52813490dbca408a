use Rattle.std.proofs.Common.{sym, ap, subst}
use Rattle.component_values.specs.Context.{MessageContext}
use Rattle.gateway.specs.Records.{GatewayState}
use Rattle.gateway.specs.tools.Judged.{IsAnswerOf, IsOutcomeOf, SaysJudged}
use Rattle.gateway.specs.declared.accepted.Judged.{Judged}
use Rattle.gateway.specs.declared.accepted.Judged.TheVariants.{Accepted}
use Rattle.gateway.specs.declared.gateway.Outcome.{Outcome}
use Rattle.gateway.proofs.Stepping.{accepted_now, stopped_outcome}
use Rattle.gateway.proofs.gateway.Gateway.judge_message.Goals as goal

pub forward-requires-clause-judged : goal.forward-requires-clause-judged
forward-requires-clause-judged g c =
    let state = c.args.self.now in
    let says = subst (λ (j : Judged). SaysJudged state c.args.exchange.now.context j) c.in-Accepted.is c.in_ok-accepted.ensures.judged in
    subst (λ (x : MessageContext). SaysJudged state x (Accepted c.in-Accepted.accepted)) (sym c.judge_asked.ensures.exchange) says

pub returns-in_ok-answer-in-Accepted-clause-is : goal.returns-in_ok-answer-in-Accepted-clause-is
returns-in_ok-answer-in-Accepted-clause-is g c = λ settings is.
    subst (λ (x : MessageContext). IsAnswerOf settings c.args.self.now x c.in-Accepted.accepted c.in_ok-answer-in-Accepted.answer) c.judge_asked.ensures.exchange (c.in_ok-answer-in-Accepted.ensures settings is)

pub returns-in_ok-answer-in-Accepted-clause-now : goal.returns-in_ok-answer-in-Accepted-clause-now
returns-in_ok-answer-in-Accepted-clause-now g c =
    let state = c.args.self.now in
    let context = c.args.exchange.now.context in
    let says = subst (λ (j : Judged). SaysJudged state context j) c.in-Accepted.is c.in_ok-accepted.ensures.judged in
    accepted_now state context says.0 c.in-Accepted.accepted says.2.0 says.2.1

pub returns-in-Refused-clause-is : goal.returns-in-Refused-clause-is
returns-in-Refused-clause-is g c = λ settings is.
    let state = c.args.self.now in
    let context = c.args.exchange.now.context in
    let says = subst (λ (j : Judged). SaysJudged state context j) c.in-Refused.is c.in_ok-accepted.ensures.judged in
    subst (λ (o : Outcome). IsOutcomeOf settings state context o) (sym c.refused.ensures)
    (stopped_outcome settings state c.self.inside.count (ap (λ (s : GatewayState). s.count) c.self.view_is) context says.0 (says.1 settings is) c.in-Refused.label c.in-Refused.verdict says.2)

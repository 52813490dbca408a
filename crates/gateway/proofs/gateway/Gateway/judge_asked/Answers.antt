use Rattle.std.proofs.Common.{◌∙◌, Option, List, ℕ, sym, ap, subst}
use Rattle.settings.specs.ConfMeaning.{meaning}
use Rattle.signatures.specs.Exchanges.{ExchangeState}
use Rattle.verdicts.specs.Asked.{AreAsked}
use Rattle.gateway.specs.Records.{GatewayState}
use Rattle.gateway.specs.tools.Judged.{SaysJudged}
use Rattle.gateway.proofs.Stepping.{judged_at, ok_more}
use Rattle.gateway.proofs.gateway.Gateway.judge_asked.Goals as goal

pub returns-clause-judged : goal.returns-clause-judged
returns-clause-judged g c =
    let state = c.args.self.now in
    let context = c.args.exchange.now.context in
    let labels = c.as_slice.result.now in
    let same = ap (λ (e : ExchangeState). e.context) c.in_ok-labels.ensures.same in
    let conf = ap (λ (s : GatewayState). s.conf) c.self.view_is in
    let moment = c.moment-moment.ensures ∙ ap (λ (s : GatewayState). s.seen.moment) c.self.view_is in
    let seen = ap (λ (s : GatewayState). s.seen) c.self.view_is in
    ok_more _ (SaysJudged state context) c.judge.result
    (λ given judges. (
      labels,
      λ settings is. subst (λ (ls : List (List ℕ)). AreAsked settings.label context.message ls) (sym c.as_slice.ensures)
          (subst (λ (o : Option (List ℕ)). AreAsked o context.message c.in_ok-labels.labels) (c.label.ensures settings is) c.in_ok-labels.ensures.asked),
      judged_at state context _ (meaning c.self.inside.conf.now) c.moment-moment.result c.self.inside.book labels given same conf moment seen judges,
    ))
    c.judge.ensures.judged

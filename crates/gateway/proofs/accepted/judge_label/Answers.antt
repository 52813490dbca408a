use Rattle.std.proofs.Common.{◌∙◌, Err, ap, subst}
use Rattle.signatures.specs.Exchanges.{ExchangeState}
use Rattle.verdicts.specs.Verdicts.{IsVerdict}
use Rattle.verdicts.specs.Verification.{verification_by}
use Rattle.gateway.specs.tools.Judged.{IsJudgedBy, IsJudgedLabel}
use Rattle.gateway.proofs.Accepting.{judged_label, unread_label}
use Rattle.gateway.proofs.Stepping.{ok_more}
use Rattle.gateway.proofs.accepted.judge_label.Goals as goal

pub returns-in_ok-verdict-in-Ok-clause-judged : goal.returns-in_ok-verdict-in-Ok-clause-judged
returns-in_ok-verdict-in-Ok-clause-judged g c =
    let context = c.args.exchange.now.context in
    let v = verification_by c.args.verifier.now context c.args.label.now in
    let read = c.in-Ok.read in
    let verdict = c.in_ok-verdict-in-Ok.verdict in
    let is = subst (λ (e : ExchangeState). IsVerdict (verification_by c.args.verifier.now e.context c.args.label.now) verdict) c.label.ensures.same c.in_ok-verdict-in-Ok.ensures.is in
    ok_more (IsJudgedBy c.args.label.now read.params verdict) (IsJudgedLabel context.message v) c.judged_by.result
    (λ given told. judged_label context.message v read.params read.tag verdict given c.in-Ok.ensures.ok is told) c.judged_by.ensures

pub returns-in-Rule-clause-judged : goal.returns-in-Rule-clause-judged
returns-in-Rule-clause-judged g c =
    let context = c.args.exchange.now.context in
    let v = verification_by c.args.verifier.now context c.args.label.now in
    unread_label context.message v c.in-Rule.number c.in-Rule.place c.label.result c.label.ensures.fault (c.in-Err.is ∙ ap Err c.in-Rule.is)

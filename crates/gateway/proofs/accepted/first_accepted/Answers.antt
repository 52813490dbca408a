use Rattle.std.proofs.Common.{ℕ, List, Ok, Err, subst, arith, ◌∙◌}
use Rattle.component_values.specs.Context.{MessageContext}
use Rattle.verdicts.specs.Verification.{verification_by}
use Rattle.gateway.specs.tools.Judged.{IsJudgedLabel}
use Rattle.gateway.proofs.Accepting.{accepted_here, first_label, refused_all, refused_more}
use Rattle.gateway.proofs.accepted.first_accepted.Goals as goal

pub returns-in-Ok-clause-found : goal.returns-in-Ok-clause-found
returns-in-Ok-clause-found g c =
    let context = c.args.exchange.now.context in
    let judged = verification_by c.args.verifier.now context in
    let label = c.label-item.result in
    let accepted = c.in-Ok.accepted in
    let met = c.loop-label.exchange.context in
    let here : IsJudgedLabel met.message (verification_by c.args.verifier.now met c.bytes.result.now) (Ok accepted) = rw c.in-Ok.is at c.in_ok-accepted.ensures.judged in
    let own : IsJudgedLabel context.message (judged label) (Ok accepted) =
    subst (λ (l : List ℕ). IsJudgedLabel context.message (judged l) (Ok accepted)) c.bytes.ensures
    (subst (λ (x : MessageContext). IsJudgedLabel x.message (verification_by c.args.verifier.now x c.bytes.result.now) (Ok accepted)) c.loop-label.invariant.1 here) in
    first_label judged context.message c.args.labels.now label accepted.keyid accepted
    (accepted_here judged c.args.labels.now c.loop-label.label-index label accepted.keyid c.loop-label-test.true c.label-item.is c.loop-label.invariant.0 own.0) own.1

pub loop-label-preserved : goal.loop-label-preserved
loop-label-preserved g c =
    let judged = verification_by c.args.verifier.now c.args.exchange.now.context in
    let label = c.label-item.result in
    let verdict = c.in-Err.verdict in
    let met = c.loop-label.exchange.context in
    let here : IsJudgedLabel met.message (verification_by c.args.verifier.now met c.bytes.result.now) (Err verdict) = rw c.in-Err.is at c.in_ok-accepted.ensures.judged in
    let own : IsJudgedLabel c.args.exchange.now.context.message (judged label) (Err verdict) =
    subst (λ (l : List ℕ). IsJudgedLabel c.args.exchange.now.context.message (judged l) (Err verdict)) c.bytes.ensures
    (subst (λ (x : MessageContext). IsJudgedLabel x.message (verification_by c.args.verifier.now x c.bytes.result.now) (Err verdict)) c.loop-label.invariant.1 here) in (
      refused_more judged c.args.labels.now c.loop-label.label-index label verdict c.loop-label-test.true c.label-item.is c.loop-label.invariant.0 own,
      c.judge_label.ensures.exchange ∙ c.loop-label.invariant.1,
      omega (arith, c.loop-label.invariant.2, c.judge_label.ensures.steps),
    )

pub returns-clause-found : goal.returns-clause-found
returns-clause-found g c =
    refused_all (verification_by c.args.verifier.now c.args.exchange.now.context) c.args.labels.now c.loop-label.label-index c.loop-label-test.false c.loop-label.invariant.0

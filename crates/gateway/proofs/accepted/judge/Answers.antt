use Rattle.std.proofs.Common.{List, ℕ, Ok, Err, subst, sym}
use Rattle.component_values.specs.Context.{MessageContext}
use Rattle.verdicts.specs.Verification.{verification_by}
use Rattle.gateway.specs.Accepted.{AreRefused, IsFirstAccepted, IsRefusal}
use Rattle.gateway.specs.tools.Judged.{IsFirstLabel, IsJudgedLabel}
use Rattle.gateway.proofs.Accepting.{accepted_first, accepted_later, first_label, refused_first}
use Rattle.gateway.proofs.accepted.judge.Goals as goal

pub returns-in-Ok-clause-judged : goal.returns-in-Ok-clause-judged
returns-in-Ok-clause-judged g c =
    let context = c.args.exchange.now.context in
    let judged = verification_by c.args.verifier.now context in
    let first = c.in-Some.first.now in
    let accepted = c.in-Ok.accepted in
    let here : IsJudgedLabel context.message (judged c.bytes.result.now) (Ok accepted) = rw c.in-Ok.is at c.in_ok-accepted.ensures.judged in
    let own : IsJudgedLabel context.message (judged first) (Ok accepted) = subst (λ (l : List ℕ). IsJudgedLabel context.message (judged l) (Ok accepted)) c.bytes.ensures here in
    first_label judged context.message c.args.labels.now first accepted.keyid accepted
    (subst (λ (ls : List (List ℕ)). IsFirstAccepted judged ls first accepted.keyid) (sym c.in-Some.ensures.cases.0) (accepted_first judged first c.in-Some.others.now accepted.keyid own.0)) own.1

pub returns-in-Some-2-clause-judged : goal.returns-in-Some-2-clause-judged
returns-in-Some-2-clause-judged g c =
    let context = c.args.exchange.now.context in
    let judged = verification_by c.args.verifier.now context in
    let first = c.in-Some.first.now in
    let others = c.in-Some.others.now in
    let accepted = c.in-Some-2.accepted in
    let later = c.judge_label.new.exchange.context in
    let here : IsJudgedLabel context.message (judged c.bytes.result.now) (Err c.in-Err.verdict) = rw c.in-Err.is at c.in_ok-accepted.ensures.judged in
    let refused : IsJudgedLabel context.message (judged first) (Err c.in-Err.verdict) =
    subst (λ (l : List ℕ). IsJudgedLabel context.message (judged l) (Err c.in-Err.verdict)) c.bytes.ensures here in
    let there : IsFirstLabel later.message (verification_by c.args.verifier.now later) others accepted = rw c.in-Some-2.is at c.in_ok-accepted-in-Err.ensures.found in
    let found : IsFirstLabel context.message judged others accepted =
    subst (λ (x : MessageContext). IsFirstLabel x.message (verification_by c.args.verifier.now x) others accepted) c.judge_label.ensures.exchange there in (
      subst (λ (ls : List (List ℕ)). IsFirstAccepted judged ls accepted.label accepted.keyid) (sym c.in-Some.ensures.cases.0)
          (accepted_later judged first others c.in-Err.verdict refused accepted.label accepted.keyid found.0),
      found.1,
    )

pub returns-in_ok-copy-in-None-clause-judged : goal.returns-in_ok-copy-in-None-clause-judged
returns-in_ok-copy-in-None-clause-judged g c =
    let context = c.args.exchange.now.context in
    let judged = verification_by c.args.verifier.now context in
    let first = c.in-Some.first.now in
    let others = c.in-Some.others.now in
    let later = c.judge_label.new.exchange.context in
    let verdict = c.in-Err.verdict in
    let here : IsJudgedLabel context.message (judged c.bytes.result.now) (Err verdict) = rw c.in-Err.is at c.in_ok-accepted.ensures.judged in
    let refused : IsJudgedLabel context.message (judged first) (Err verdict) = subst (λ (l : List ℕ). IsJudgedLabel context.message (judged l) (Err verdict)) c.bytes.ensures here in
    let there : AreRefused (verification_by c.args.verifier.now later) others = rw c.in-None.is at c.in_ok-accepted-in-Err.ensures.found in
    let none : AreRefused judged others = subst (λ (x : MessageContext). AreRefused (verification_by c.args.verifier.now x) others) c.judge_label.ensures.exchange there in
    subst (λ (l : List ℕ). IsRefusal judged c.args.labels.now l verdict) (sym c.in_ok-copy-in-None.ensures.ok)
    (subst (λ (ls : List (List ℕ)). IsRefusal judged ls first verdict) (sym c.in-Some.ensures.cases.0) (refused_first judged first others verdict refused none))

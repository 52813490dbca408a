use Rattle.std.proofs.Common.{◌+◌, ◌<◌, ℕ, List, Err, Ok, length, sym, subst, arith}
use Rattle.std.specs.List.{All}
use Rattle.std.proofs.lemmas.List.Elements.{All-tail}
use Rattle.component_values.specs.Context.{context_of}
use Rattle.signing.specs.Specs.{IsValidSpec}
use Rattle.signing.specs.declared.spec.SignSpec.{SignSpec}
use Rattle.negotiation.specs.tools.Signing.{ExplainsNext, IsSignedText}
use Rattle.negotiation.proofs.Signing.{all_signed, first_signed, first_stopped, more_signed, more_stopped, once, other_is, text_so_far}
use Rattle.negotiation.proofs.each.judge.Goals as goal

pub returns-in-Err : goal.returns-in-Err
returns-in-Err c =
    let context = context_of c.args.context.now in
    rw c.fault_at.ensures
    (first_stopped context c.args.specs.now c.in-Some.first.now c.in-Some.others.now c.in-Some.ensures.cases.0 c.in-Err.fault
    (once context c.in-Some.first.now (Err c.in-Err.fault) c.in-Err.ensures.spells c.in-Err.ensures.verifiable c.in-Err.ensures.fault))

pub loop-index-init : goal.loop-index-init
loop-index-init c =
    let context = context_of c.args.context.now in
    first_signed context c.args.specs.now c.in-Some.first.now c.in-Some.others.now c.in-Some.ensures.cases.0 c.in-Ok.text
    (once context c.in-Some.first.now (Ok c.in-Ok.text) c.in-Ok.ensures.spells c.in-Ok.ensures.verifiable c.in-Ok.ensures.fault)

pub sign_again-requires-clause-valid : goal.sign_again-requires-clause-valid
sign_again-requires-clause-valid c =
    let rest : All IsValidSpec c.in-Some.others.now = All-tail IsValidSpec c.in-Some.first.now c.in-Some.others.now (subst (λ (ss : List SignSpec). All IsValidSpec ss) c.in-Some.ensures.cases.0 c.requires.valid) in
    subst (λ (s : SignSpec). IsValidSpec s) (sym c.index-others-index.is) (rest c.loop-index.index c.index-others-index.result c.loop-index-test.true)

pub sign_again-requires-clause-signed : goal.sign_again-requires-clause-signed
sign_again-requires-clause-signed c =
    let context = context_of c.args.context.now in
    subst (λ (t : List ℕ). IsSignedText context t) (sym c.bytes-in-loop-index.ensures)
    (text_so_far context c.args.specs.now (c.loop-index.index + 1) c.loop-index.text c.loop-index.invariant)

pub returns-in-Err-sign_again : goal.returns-in-Err-sign_again
returns-in-Err-sign_again c =
    let context = context_of c.args.context.now in
    let specs = c.args.specs.now in
    let spec = c.index-others-index.result in
    let there : c.loop-index.index + 1 < length specs = omega (arith, c.in-Some.ensures.cases.1, c.loop-index-test.true) in
    let is = other_is context specs c.in-Some.first.now c.in-Some.others.now c.in-Some.ensures.cases.0 c.loop-index.index spec c.index-others-index.is in
    rw c.fault_at-in-Err-sign_again.ensures
    (more_stopped context specs (c.loop-index.index + 1) c.loop-index.text c.loop-index.invariant spec there is c.in-Err-sign_again.fault
    (subst (λ (t : List ℕ). ExplainsNext context t spec (Err c.in-Err-sign_again.fault)) c.bytes-in-loop-index.ensures c.in-Err-sign_again.ensures))

pub loop-index-preserved : goal.loop-index-preserved
loop-index-preserved c =
    let context = context_of c.args.context.now in
    let specs = c.args.specs.now in
    let spec = c.index-others-index.result in
    let there : c.loop-index.index + 1 < length specs = omega (arith, c.in-Some.ensures.cases.1, c.loop-index-test.true) in
    let is = other_is context specs c.in-Some.first.now c.in-Some.others.now c.in-Some.ensures.cases.0 c.loop-index.index spec c.index-others-index.is in
    more_signed context specs (c.loop-index.index + 1) c.loop-index.text c.loop-index.invariant spec there is c.in-Ok-sign_again.text
    (subst (λ (t : List ℕ). ExplainsNext context t spec (Ok c.in-Ok-sign_again.text)) c.bytes-in-loop-index.ensures c.in-Ok-sign_again.ensures)

pub returns : goal.returns
returns c =
    all_signed (context_of c.args.context.now) c.args.specs.now (c.loop-index.index + 1) c.loop-index.text c.loop-index.invariant
    (omega (arith, c.in-Some.ensures.cases.1, c.loop-index-test.false))

use Rattle.std.proofs.Common.{◌≡◌, Some, refl}
use Rattle.std.proofs.lemmas.Result.{err_from_is_err_and}
use Rattle.msg_body.specs.Views.{message_of}
use Rattle.component_values.specs.Context.{context_of}
use Rattle.settings.specs.ConfMeaning.{meaning}
use Rattle.negotiation.specs.tools.Judged.{IsNegotiatedText}
use Rattle.negotiation.proofs.Negotiating.{all_made, digest_stopped, each_stopped, specs_stopped, wish_stopped}
use Rattle.negotiation.proofs.response.judge.Goals as goal

pub returns-in_err-digest : goal.returns-in_err-digest
returns-in_err-digest c =
    let conf = meaning c.args.conf.now in
    let context = context_of c.args.context.now in
    let request = message_of c.in-Some.request.now in
    let related : context.related ≡ Some request = rw c.in-Some.is refl in
    let p = err_from_is_err_and c.from_residual.result c.from_residual.ensures.1 in
    rw (p.1, p.2) (wish_stopped conf c.args.now context request related (IsNegotiatedText conf c.args.now context) c.in_err-digest.field-0.0 c.in_err-digest.ensures)

pub returns-in_err-judge_digests : goal.returns-in_err-judge_digests
returns-in_err-judge_digests c =
    let conf = meaning c.args.conf.now in
    let context = context_of c.args.context.now in
    let request = message_of c.in-Some.request.now in
    let related : context.related ≡ Some request = rw c.in-Some.is refl in
    let p = err_from_is_err_and c.from_residual-in_err-judge_digests.result c.from_residual-in_err-judge_digests.ensures.1 in
    rw (p.1, p.2)
    (digest_stopped conf c.args.now context request related c.in_ok-digest.digest c.in_ok-digest.ensures (IsNegotiatedText conf c.args.now context) c.in_err-judge_digests.field-0.0 c.in_err-judge_digests.ensures)

pub returns-in_err-specs : goal.returns-in_err-specs
returns-in_err-specs c =
    let conf = meaning c.args.conf.now in
    let context = context_of c.args.context.now in
    let request = message_of c.in-Some.request.now in
    let related : context.related ≡ Some request = rw c.in-Some.is refl in
    let p = err_from_is_err_and c.from_residual-in_err-specs.result c.from_residual-in_err-specs.ensures.1 in
    rw (p.1, p.2)
    (specs_stopped conf c.args.now context request related c.in_ok-digest.digest c.in_ok-digest.ensures c.in_ok-judge_digests.ensures (IsNegotiatedText conf c.args.now context) c.in_err-specs.field-0.0
    c.in_err-specs.ensures.explains)

pub returns-in_err-sign_each : goal.returns-in_err-sign_each
returns-in_err-sign_each c =
    let conf = meaning c.args.conf.now in
    let context = context_of c.args.context.now in
    let request = message_of c.in-Some.request.now in
    let related : context.related ≡ Some request = rw c.in-Some.is refl in
    let p = err_from_is_err_and c.from_residual-in_err-sign_each.result c.from_residual-in_err-sign_each.ensures.1 in
    rw (p.1, p.2)
    (each_stopped conf c.args.now context request related c.in_ok-digest.digest c.in_ok-digest.ensures c.in_ok-judge_digests.ensures c.in_ok-specs.specs c.in_ok-specs.ensures.explains
    (IsNegotiatedText conf c.args.now context) c.in_err-sign_each.field-0.0 (λ own. (rw c.as_slice.ensures at c.in_err-sign_each.ensures.fault c.in_err-sign_each.field-0.0 own).only refl))

pub returns : goal.returns
returns c =
    let conf = meaning c.args.conf.now in
    let context = context_of c.args.context.now in
    let request = message_of c.in-Some.request.now in
    let related : context.related ≡ Some request = rw c.in-Some.is refl in
    all_made conf c.args.now context request related c.in_ok-digest.digest c.in_ok-digest.ensures c.in_ok-judge_digests.ensures c.in_ok-specs.specs c.in_ok-specs.ensures.explains c.in_ok-sign_each.field-0
    (rw c.as_slice.ensures at c.in_ok-sign_each.ensures.ok)

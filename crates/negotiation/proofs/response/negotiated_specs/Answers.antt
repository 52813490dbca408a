use Rattle.std.proofs.Common.{◌≡◌, List, Some, None, map, sym, subst, ap, ◌∙◌}
use Rattle.std.specs.List.{All}
use Rattle.std.proofs.lemmas.Result.{err_from_is_err_and}
use Rattle.msg_body.specs.Views.{message_of}
use Rattle.settings.specs.ConfMeaning.{meaning}
use Rattle.signing.specs.Specs.{IsValidSpec}
use Rattle.signing.specs.declared.spec.SignSpec.{SignSpec}
use Rattle.negotiation.specs.Negotiated.{with_digest_by}
use Rattle.negotiation.proofs.Negotiating.{all_valid_by, as_wished, specs_by, want_stopped}
use Rattle.negotiation.proofs.response.negotiated_specs.Goals as goal

pub returns-in_err-specs-clause-explains : goal.returns-in_err-specs-clause-explains
returns-in_err-specs-clause-explains c =
    let p = err_from_is_err_and c.from_residual.result c.from_residual.ensures.1 in
    rw (p.1, p.2) (want_stopped (meaning c.args.conf.now) c.args.now (message_of c.args.request.now) c.args.digest c.in_err-specs.field-0.0 c.in_err-specs.ensures.fault)

pub returns-in-None-clause-explains : goal.returns-in-None-clause-explains
returns-in-None-clause-explains c =
    let specs = c.in_ok-specs.specs in
    rw c.in-None.is (specs_by (meaning c.args.conf.now) c.args.now (message_of c.args.request.now) None specs specs c.in_ok-specs.ensures.ok c.in_ok-specs.ensures.fault (sym (as_wished specs)))

pub returns-in_ok-all_with_digest_by-in-Some-clause-explains : goal.returns-in_ok-all_with_digest_by-in-Some-clause-explains
returns-in_ok-all_with_digest_by-in-Some-clause-explains c =
    let specs = c.in_ok-specs.specs in
    let others = c.in_ok-all_with_digest_by-in-Some.field-0 in
    let is : others ≡ map (with_digest_by (Some c.in-Some.algorithm)) specs =
    c.in_ok-all_with_digest_by-in-Some.ensures ∙ ap (λ (ss : List SignSpec). map (with_digest_by (Some c.in-Some.algorithm)) ss) c.as_slice.ensures in
    rw c.in-Some.is
    (specs_by (meaning c.args.conf.now) c.args.now (message_of c.args.request.now) (Some c.in-Some.algorithm) specs others c.in_ok-specs.ensures.ok c.in_ok-specs.ensures.fault is)

pub returns-in_ok-all_with_digest_by-in-Some-clause-valid : goal.returns-in_ok-all_with_digest_by-in-Some-clause-valid
returns-in_ok-all_with_digest_by-in-Some-clause-valid c =
    let specs = c.in_ok-specs.specs in
    let others = c.in_ok-all_with_digest_by-in-Some.field-0 in
    let is : others ≡ map (with_digest_by (Some c.in-Some.algorithm)) specs =
    c.in_ok-all_with_digest_by-in-Some.ensures ∙ ap (λ (ss : List SignSpec). map (with_digest_by (Some c.in-Some.algorithm)) ss) c.as_slice.ensures in
    subst (λ (ss : List SignSpec). All IsValidSpec ss) (sym is) (all_valid_by (Some c.in-Some.algorithm) specs c.in_ok-specs.ensures.valid)

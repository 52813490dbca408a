use Rattle.std.proofs.Common.{refl, sym, ap, ◌∙◌}
use Rattle.msg_body.specs.Errors.{framing_error}
use Rattle.msg_body.specs.Messages.{is_expected}
use Rattle.msg_body.proofs.Readings.{rest_fault, framing_fault, body_fault, rest_is}
use Rattle.msg_body.proofs.read.judge_rest.Goals as goal

pub returns-in_err-framed : goal.returns-in_err-framed
returns-in_err-framed c =
    rest_fault c.args.expect c.args.to_head c.args.bytes.now c.args.head.now c.args.start c.from_residual.result (framing_error c.in_err-framed.field-0.0) c.from_residual.ensures.1
    (λ own. framing_fault c.args.expect c.args.to_head c.args.bytes.now c.args.head.now c.args.start c.in_err-framed.field-0.0 c.requires.view
    (sym (ap (λ s. is_expected c.args.expect s) c.start.ensures) ∙ sym c.is_expected.ensures ∙ c.if-not-is_expected.false)
    ((c.in_err-framed.ensures.fault c.in_err-framed.field-0.0).0 refl))

pub returns-in_err-body : goal.returns-in_err-body
returns-in_err-body c =
    let framed = c.in_ok-framed.ensures.ok in
    let body = rw c.split_at.ensures.back at c.in_err-body.ensures in
    rest_fault c.args.expect c.args.to_head c.args.bytes.now c.args.head.now c.args.start c.from_residual-in_err-body.result c.in_err-body.field-0.0 c.from_residual-in_err-body.ensures.1
    (λ own. body_fault c.args.expect c.args.to_head c.args.bytes.now c.args.head.now c.args.start c.in_ok-framed.framed c.in_err-body.field-0.0
    (record {
      view_is = c.requires.view;
      expected = sym (ap (λ s. is_expected c.args.expect s) c.start.ensures) ∙ sym c.is_expected.ensures ∙ c.if-not-is_expected.false;
      framable = framed.0;
      framing = framed.1;
      length_is = framed.2;
    }) (body own))

pub returns : goal.returns
returns c =
    let framed = c.in_ok-framed.ensures.ok in
    rest_is c.args.expect c.args.to_head c.args.bytes.now c.args.head.now c.args.start c.in_ok-framed.framed c.split_at.result.1.now c.in_ok-body.body c.requires.short
    (record {
      view_is = c.requires.view;
      expected = sym (ap (λ s. is_expected c.args.expect s) c.start.ensures) ∙ sym c.is_expected.ensures ∙ c.if-not-is_expected.false;
      framable = framed.0;
      framing = framed.1;
      length_is = framed.2;
    }) c.split_at.ensures.back c.in_ok-body.ensures

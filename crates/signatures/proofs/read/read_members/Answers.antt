use Rattle.std.proofs.Common.{Some, sym, ap, ◌∙◌}
use Rattle.std.proofs.lemmas.Result.{err_from_is_err_and}
use Rattle.sfv_text.specs.declared.value.Member.{Member}
use Rattle.signatures.proofs.Reading.{not_in_input, not_in_signature, not_a_list, not_bytes, no_params, params_fail}
use Rattle.signatures.proofs.read.read_members.Goals as goal

pub returns-in_default : goal.returns-in_default
returns-in_default c = λ message has also. not_in_input message c.args.label.now c.args.input.now c.args.signature.now has also (sym c.in_default.ensures)

pub returns-in_default-find : goal.returns-in_default-find
returns-in_default-find c = λ message has also.
    not_in_signature message c.args.label.now c.args.input.now c.args.signature.now has also c.in-Some.covered.now (sym c.in-Some.ensures) (sym c.in_default-find.ensures)

pub returns-in_default-covered : goal.returns-in_default-covered
returns-in_default-covered c = λ message has also.
    not_a_list message c.args.label.now c.args.input.now c.args.signature.now has also c.in_default-covered.field-0 c.in-Some-find.member.now
    (sym c.in-Some.ensures ∙ ap (λ (m : Member). Some m) c.in_default-covered.is) (sym c.in-Some-find.ensures)

pub returns-in_default-byte_sequence : goal.returns-in_default-byte_sequence
returns-in_default-byte_sequence c = λ message has also.
    not_bytes message c.args.label.now c.args.input.now c.args.signature.now has also c.in-InnerList.list c.in-Some-find.member.now
    (sym c.in-Some.ensures ∙ ap (λ (m : Member). Some m) c.in-InnerList.is) (sym c.in-Some-find.ensures) (sym c.in_default-byte_sequence.ensures)

pub returns-in_err-params : goal.returns-in_err-params
returns-in_err-params c = λ message has also.
    let p = err_from_is_err_and c.from_residual.result c.from_residual.ensures.1 in
    rw (p.1, p.2)
    (params_fail message c.args.label.now c.in-InnerList.list c.in_err-params.field-0.0 c.in_err-params.ensures.fault
    (no_params message c.args.label.now c.args.input.now c.args.signature.now has also c.in-InnerList.list c.in-Some-find.member.now c.in-Some-byte_sequence.tag.now
    (sym c.in-Some.ensures ∙ ap (λ (m : Member). Some m) c.in-InnerList.is) (sym c.in-Some-find.ensures) (sym c.in-Some-byte_sequence.ensures)))

use Rattle.std.proofs.lemmas.Result.{err_from_is_err_and}
use Rattle.field_lists.specs.tools.Views.{control_of}
use Rattle.field_lists.proofs.Judging.{no_control}
use Rattle.field_lists.proofs.ToAnswers.{judged_fault, memory_fault, turned_text}
use Rattle.field_lists.proofs.into_message.turn.Goals as goal

pub returns-in_default : goal.returns-in_default
returns-in_default c = λ _. no_control c.args.list.now c.args.scheme c.in_default.ensures.none

pub judge-requires : goal.judge-requires
judge-requires c = c.in-Some.ensures.some.0

pub returns-in_err-judge : goal.returns-in_err-judge
returns-in_err-judge c =
    let p = err_from_is_err_and c.from_residual.result c.from_residual.ensures.1 in
    rw (p.1, p.2) (judged_fault c.args.list.now c.in-Some.parts.list.now c.args.scheme c.in_err-judge.field-0.0 c.in-Some.ensures.some.1 c.in_err-judge.ensures)

pub returns-in_err-text : goal.returns-in_err-text
returns-in_err-text c =
    let p = err_from_is_err_and c.from_residual-in_err-text.result c.from_residual-in_err-text.ensures.1 in
    memory_fault c.args.list.now c.args.scheme c.from_residual-in_err-text.result p.0 p.1 p.2

pub returns : goal.returns
returns c =
    let parts = c.in-Some.parts in
    turned_text c.args.list.now parts.list.now c.args.scheme (control_of parts.control) parts.others.now c.in_ok-text.text c.in-Some.ensures.some.1 c.in-Some.ensures.some.0 c.in_ok-judge.ensures c.in_ok-text.ensures

use Rattle.std.proofs.lemmas.Result.{IfErr-weaker, err_from_is_err_and, on_ok_weaker}
use Rattle.toml.specs.View.{array_view, table_view}
use Rattle.conf.proofs.TableLaws.{good_found, good_without, requests_fault, responses_fault}
use Rattle.conf.proofs.lists.judge_tables_lists.Goals as goal

pub returns-in_default-clause-ok : goal.returns-in_default-clause-ok
returns-in_default-clause-ok c = good_without (table_view c.args.tables.document.now) (rw c.in_default.is at c.requires.policies)

pub returns-in_err-judge_lists-clause-err : goal.returns-in_err-judge_lists-clause-err
returns-in_err-judge_lists-clause-err c =
    let document = table_view c.args.tables.document.now in
    let items = array_view c.in-Some.array.now in
    let p = err_from_is_err_and c.from_residual.result c.from_residual.ensures.1 in
    rw (p.1, p.2) (requests_fault document items c.in_err-judge_lists.field-0.0 (rw c.in-Some.is at c.requires.policies) c.in_err-judge_lists.ensures.err)

pub returns-clause-ok : goal.returns-clause-ok
returns-clause-ok c =
    let document = table_view c.args.tables.document.now in
    let items = array_view c.in-Some.array.now in
    let is = rw c.in-Some.is at c.requires.policies in
    on_ok_weaker c.judge_lists-2.result (good_found document items is c.in_ok-judge_lists.ensures.ok) c.judge_lists-2.ensures.ok

pub returns-clause-err : goal.returns-clause-err
returns-clause-err c =
    let document = table_view c.args.tables.document.now in
    let items = array_view c.in-Some.array.now in
    let is = rw c.in-Some.is at c.requires.policies in
    IfErr-weaker c.judge_lists-2.result _ _ (λ f h. responses_fault document items f is c.in_ok-judge_lists.ensures.ok h) c.judge_lists-2.ensures.err

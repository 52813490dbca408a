use Rattle.std.proofs.lemmas.Result.{err_from_is_err_and}
use Rattle.toml.specs.View.{table_view}
use Rattle.conf.proofs.GatewayLaws.{gateway_said, none_is_bad}
use Rattle.conf.proofs.JudgedLaws.{first_is, below_missing, below_steps}
use Rattle.conf.proofs.ListLaws.{told_are}
use Rattle.conf.proofs.RowFacts.{steps_fine, request_typed, response_typed}
use Rattle.conf.proofs.SectionLaws.{read_fine, tables_say}
use Rattle.conf.proofs.sections.read_sections.Goals as goal

pub returns-in_err-steps-clause-err : goal.returns-in_err-steps-clause-err
returns-in_err-steps-clause-err c =
    let document = table_view c.args.tables.document.now in
    let fine = read_fine document c.in_ok-lists.lists c.in_ok-lists.ensures.ok c.in_ok-lists.ensures.good in
    let p = err_from_is_err_and c.from_residual-in_err-steps.result c.from_residual-in_err-steps.ensures.1 in
    rw (p.1, p.2) (λ below. first_is 8 document c.in_err-steps.field-0.0 (below_steps document below fine) c.in_err-steps.ensures.err)

pub returns-in_err-judge_rows-clause-err : goal.returns-in_err-judge_rows-clause-err
returns-in_err-judge_rows-clause-err c =
    let document = table_view c.args.tables.document.now in
    let fine = read_fine document c.in_ok-lists.lists c.in_ok-lists.ensures.ok c.in_ok-lists.ensures.good in
    let p = err_from_is_err_and c.from_residual-in_err-judge_rows.result c.from_residual-in_err-judge_rows.ensures.1 in
    let steps = steps_fine document (none_is_bad document c.in_ok-steps.steps c.requires.judged c.in_ok-steps.ensures.ok) in
    rw (p.1, p.2) (λ below. first_is 9 document c.in_err-judge_rows.field-0.0 (below_missing document (below_steps document below fine) steps) c.in_err-judge_rows.ensures.err)

pub sign_of-requires-clause-request : goal.sign_of-requires-clause-request
sign_of-requires-clause-request c =
    told_are _ c.in_ok-lists.lists.components_request (request_typed (table_view c.args.tables.document.now) c.requires.judged) c.in_ok-lists.ensures.ok.components_request

pub sign_of-requires-clause-response : goal.sign_of-requires-clause-response
sign_of-requires-clause-response c =
    told_are _ c.in_ok-lists.lists.components_response (response_typed (table_view c.args.tables.document.now) c.requires.judged) c.in_ok-lists.ensures.ok.components_response

pub returns-clause-ok : goal.returns-clause-ok
returns-clause-ok c =
    let document = table_view c.args.tables.document.now in
    tables_say document c.in_ok-lists.lists c.in_ok-policies.policies c.in_ok-sign.sign c.in_ok-gateway.gateway c.requires.judged c.in_ok-judge_rows.ensures.ok c.in_ok-lists.ensures.ok
    c.in_ok-lists.ensures.good (steps_fine document (none_is_bad document c.in_ok-steps.steps c.requires.judged c.in_ok-steps.ensures.ok)) c.in_ok-policies.ensures c.in_ok-sign.ensures
    (gateway_said document c.in_ok-gateway.gateway c.requires.judged c.in_ok-gateway.ensures)

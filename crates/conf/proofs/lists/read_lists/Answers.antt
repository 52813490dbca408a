use Rattle.std.proofs.Common.{codes, subst}
use Rattle.std.proofs.lemmas.Result.{err_from_is_err_and}
use Rattle.toml.specs.Data.{Members, get_member}
use Rattle.toml.specs.View.{table_view}
use Rattle.conf_values.specs.declared.table.TableName.TheVariants.{Sign}
use Rattle.conf_values.specs.Views.{table_members}
use Rattle.conf.specs.Table.{members_at}
use Rattle.conf.specs.tools.SectionReads.{IsToldList, value_of}
use Rattle.conf.proofs.ListLaws.{told_not_bad}
use Rattle.conf.proofs.RowFacts.{none_bad, request_least, response_least}
use Rattle.conf.proofs.SectionLaws.{found_fault}
use Rattle.conf.proofs.lists.read_lists.Goals as goal

pub returns-in_err-components_request-clause-err : goal.returns-in_err-components_request-clause-err
returns-in_err-components_request-clause-err c =
    let document = table_view c.args.tables.document.now in
    let fine = none_bad document c.in_ok-judge_policy_lists.ensures.ok in
    let p = err_from_is_err_and c.from_residual-in_err-components_request.result c.from_residual-in_err-components_request.ensures.1 in
    rw (p.1, p.2) (found_fault document (codes "components-request") (codes "sign.components-request") (table_members c.args.tables.sign) (members_at document Sign)
    c.in_err-components_request.field-0.0 c.requires.sign (request_least document fine) c.in_err-components_request.ensures.err)

pub returns-in_err-components_response-clause-err : goal.returns-in_err-components_response-clause-err
returns-in_err-components_response-clause-err c =
    let document = table_view c.args.tables.document.now in
    let fine = none_bad document c.in_ok-judge_policy_lists.ensures.ok in
    let ids = c.in_ok-components_request.components_request in
    let told = subst (λ (pairs : Members). IsToldList (get_member (codes "components-request") pairs) ids) c.requires.sign c.in_ok-components_request.ensures.ok in
    let first = told_not_bad (value_of document Sign (codes "components-request")) ids told in
    let p = err_from_is_err_and c.from_residual-in_err-components_response.result c.from_residual-in_err-components_response.ensures.1 in
    rw (p.1, p.2) (found_fault document (codes "components-response") (codes "sign.components-response") (table_members c.args.tables.sign) (members_at document Sign)
    c.in_err-components_response.field-0.0 c.requires.sign (response_least document fine first) c.in_err-components_response.ensures.err)

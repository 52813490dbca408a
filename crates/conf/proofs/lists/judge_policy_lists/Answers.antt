use Rattle.std.proofs.Common.{codes, subst}
use Rattle.std.proofs.lemmas.Result.{err_from_is_err_and}
use Rattle.toml.specs.Data.{Members, get_member}
use Rattle.toml.specs.View.{table_view}
use Rattle.conf_values.specs.declared.table.TableName.TheVariants.{Policy}
use Rattle.conf_values.specs.Views.{table_members}
use Rattle.conf.specs.Table.{members_at}
use Rattle.conf.specs.tools.SectionReads.{IsGoodList}
use Rattle.conf.proofs.RowFacts.{no_request_bad, no_response_bad, require_request_least, require_response_least}
use Rattle.conf.proofs.SectionLaws.{found_fault}
use Rattle.conf.proofs.lists.judge_policy_lists.Goals as goal

pub returns-in_err-read_components-clause-err : goal.returns-in_err-read_components-clause-err
returns-in_err-read_components-clause-err c =
    let document = table_view c.args.tables.document.now in
    let tables = c.in_ok-judge_tables_lists.ensures.ok in
    let first = no_request_bad document tables.request in
    let second = no_response_bad document tables.response in
    let p = err_from_is_err_and c.from_residual-in_err-read_components.result c.from_residual-in_err-read_components.ensures.1 in
    rw (p.1, p.2) (found_fault document (codes "require-request") (codes "policy.require-request") (table_members c.args.tables.policy) (members_at document Policy)
    c.in_err-read_components.field-0.0 c.requires.policy (require_request_least document first second) c.in_err-read_components.ensures.err)

pub returns-in_err-read_components-2-clause-err : goal.returns-in_err-read_components-2-clause-err
returns-in_err-read_components-2-clause-err c =
    let document = table_view c.args.tables.document.now in
    let tables = c.in_ok-judge_tables_lists.ensures.ok in
    let first = no_request_bad document tables.request in
    let second = no_response_bad document tables.response in
    let third = subst (λ (pairs : Members). IsGoodList (get_member (codes "require-request") pairs)) c.requires.policy c.in_ok-read_components.ensures.good in
    let p = err_from_is_err_and c.from_residual-in_err-read_components-2.result c.from_residual-in_err-read_components-2.ensures.1 in
    rw (p.1, p.2) (found_fault document (codes "require-response") (codes "policy.require-response") (table_members c.args.tables.policy) (members_at document Policy)
    c.in_err-read_components-2.field-0.0 c.requires.policy (require_response_least document first second third) c.in_err-read_components-2.ensures.err)

pub returns-clause-ok : goal.returns-clause-ok
returns-clause-ok c = record {
  tables = c.in_ok-judge_tables_lists.ensures.ok;
  request = subst (λ (pairs : Members). IsGoodList (get_member (codes "require-request") pairs)) c.requires.policy c.in_ok-read_components.ensures.good;
  response = subst (λ (pairs : Members). IsGoodList (get_member (codes "require-response") pairs)) c.requires.policy c.in_ok-read_components-2.ensures.good;
}

use Rattle.std.proofs.Common.{Err}
use Rattle.std.proofs.lemmas.Result.{err_from_is_err_and}
use Rattle.toml.specs.View.{table_view}
use Rattle.conf.proofs.ReadLaws.{answers_fault, answers_ok, answers_only, explains_document, explains_not_toml}
use Rattle.conf.proofs.read.read_conf.Goals as goal

pub returns-in_err-document-clause-only : goal.returns-in_err-document-clause-only
returns-in_err-document-clause-only c =
    let p = err_from_is_err_and c.from_residual.result c.from_residual.ensures.1 in
    rw (p.1, p.2) (answers_only c.args.text.now (Err c.in_err-document.field-0.0) (explains_not_toml c.args.text.now c.in_err-document.field-0.0 c.in_err-document.ensures.err))

pub returns-in_err-document-clause-fault : goal.returns-in_err-document-clause-fault
returns-in_err-document-clause-fault c =
    let p = err_from_is_err_and c.from_residual.result c.from_residual.ensures.1 in
    rw (p.1, p.2) (answers_fault c.args.text.now (Err c.in_err-document.field-0.0) (explains_not_toml c.args.text.now c.in_err-document.field-0.0 c.in_err-document.ensures.err))

pub returns-clause-ok : goal.returns-clause-ok
returns-clause-ok c =
    answers_ok c.args.text.now c.conf_of.result
    (explains_document c.args.text.now (table_view c.in_ok-document.document) c.conf_of.result c.in_ok-document.ensures.ok c.conf_of.ensures.ok c.conf_of.ensures.err)

pub returns-clause-only : goal.returns-clause-only
returns-clause-only c =
    answers_only c.args.text.now c.conf_of.result
    (explains_document c.args.text.now (table_view c.in_ok-document.document) c.conf_of.result c.in_ok-document.ensures.ok c.conf_of.ensures.ok c.conf_of.ensures.err)

pub returns-clause-fault : goal.returns-clause-fault
returns-clause-fault c =
    answers_fault c.args.text.now c.conf_of.result
    (explains_document c.args.text.now (table_view c.in_ok-document.document) c.conf_of.result c.in_ok-document.ensures.ok c.conf_of.ensures.ok c.conf_of.ensures.err)

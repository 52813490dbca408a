use Rattle.std.proofs.Common.{Bor, subst}
use Rattle.std.specs.Prelude.{IfOk}
use Rattle.std.proofs.lemmas.Result.{err_from_is_err_and}
use Rattle.settings.specs.ConfMeaning.{meaning}
use Rattle.settings.specs.declared.conf.Conf.{Conf}
use Rattle.hop_audit.specs.Report.{IsAudit}
use Rattle.hop_audit.proofs.AuditAnswers.{related_answered, report_answered, report_told}
use Rattle.hop_audit.proofs.Sizes.{held_for}
use Rattle.hop_audit.proofs.chain_audit.audit_chain.Goals as goal

pub related_request-requires : goal.related_request-requires
related_request-requires c =
    held_for c.requires.0 c.args.chain.now c.requires.1 c.requires.2 c.requires.3

pub returns-in_err-related-clause-fault : goal.returns-in_err-related-clause-fault
returns-in_err-related-clause-fault c =
    let p = err_from_is_err_and c.from_residual.result c.from_residual.ensures.1 in
    λ items held fault other. rw (p.1, p.2) (related_answered items c.args.chain.now held c.in_err-related.field-0.0 fault c.in_err-related.ensures other)

pub report-requires-clause-held : goal.report-requires-clause-held
report-requires-clause-held c =
    held_for c.requires.0 c.args.chain.now c.requires.1 c.requires.2 c.requires.3

pub returns-clause-report : goal.returns-clause-report
returns-clause-report c = λ items held.
    subst (λ (conf : Bor Conf). IfOk c.report.result (IsAudit (meaning conf.now) items)) c.of-audit.ensures.conf
    (report_told items c.args.chain.now held c.of-audit.result c.report.result c.report.ensures)

pub returns-clause-fault : goal.returns-clause-fault
returns-clause-fault c = λ items held.
    report_answered items c.args.chain.now held c.of-audit.result c.report.result c.report.ensures

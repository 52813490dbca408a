use Rattle.std.proofs.lemmas.Result.{err_from_is_err_and}
use Rattle.hop_audit.proofs.AuditAnswers.{order_answered}
use Rattle.hop_audit.proofs.chain_audit.audit.Goals as goal

pub returns-in_err-chain-clause-fault : goal.returns-in_err-chain-clause-fault
returns-in_err-chain-clause-fault c =
    let p = err_from_is_err_and c.from_residual.result c.from_residual.ensures.1 in
    λ fault other. rw (p.1, p.2) (order_answered c.args.recording.now c.in_err-chain.field-0.0 fault c.in_err-chain.ensures other)

pub audit_chain-requires : goal.audit_chain-requires
audit_chain-requires c =
    (c.args.recording.now, c.in_ok-chain.ensures, c.requires.are, c.requires.short)

pub returns-clause-report : goal.returns-clause-report
returns-clause-report c = c.audit_chain.ensures.report c.args.recording.now c.in_ok-chain.ensures

pub returns-clause-fault : goal.returns-clause-fault
returns-clause-fault c = c.audit_chain.ensures.fault c.args.recording.now c.in_ok-chain.ensures

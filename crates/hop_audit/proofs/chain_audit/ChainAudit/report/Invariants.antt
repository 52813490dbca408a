use Rattle.hop_audit.proofs.AuditSteps.{IsAuditedSoFar}
use Rattle.hop_audit.proofs.chain_audit.ChainAudit.report.Given as goal

abbrev pub invariant-loop-count : goal.invariant-loop-count
invariant-loop-count l = IsAuditedSoFar l.self l.chain l.count l.reached l.lines

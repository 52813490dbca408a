use Rattle.hop_audit.proofs.FirstFaults.{no_fault_where_audited, one_fault}
use Rattle.hop_audit.proofs.OneReport.{have_one_audit}
use Rattle.hop_audit.proofs.SomeReport.{have_audit_or_fault}
use Rattle.hop_audit.proofs.laws.items_have_one_audit.Goals as goal

pub returns : goal.returns
returns c = record { report = have_one_audit; fault = one_fault; none = no_fault_where_audited; some = have_audit_or_fault }

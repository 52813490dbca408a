-- Laws of recordings and of audits, in the form that the proofs here use.
use Rattle.recording.specs.Laws.{HasRecordingOrFault, OneRecording, OneRecordingFault, NoFaultOfRecording}
use Rattle.recording.proofs.RecordingLaws as recording
use Rattle.hop_audit.specs.Laws.{HaveOneAudit, HaveOneFault, HaveNoFaultWhereAudited, HaveAuditOrFault}
use Rattle.hop_audit.proofs.FirstFaults as faults
use Rattle.hop_audit.proofs.OneReport as one
use Rattle.hop_audit.proofs.SomeReport as some

pub recording_or_fault : HasRecordingOrFault
recording_or_fault = recording.has_recording_or_fault

pub one_recording : OneRecording
one_recording = recording.one_recording

pub one_recording_fault : OneRecordingFault
one_recording_fault = recording.one_recording_fault

pub no_fault_of_recording : NoFaultOfRecording
no_fault_of_recording = recording.no_fault_of_recording

pub one_audit : HaveOneAudit
one_audit = one.have_one_audit

pub one_chain_fault : HaveOneFault
one_chain_fault = faults.one_fault

pub no_fault_where_audited : HaveNoFaultWhereAudited
no_fault_where_audited = faults.no_fault_where_audited

pub audit_or_fault : HaveAuditOrFault
audit_or_fault = some.have_audit_or_fault

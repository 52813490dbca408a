use Rattle.recording.proofs.RecordingLaws.{has_recording_or_fault, one_recording, one_recording_fault, no_fault_of_recording}
use Rattle.recording.proofs.laws.a_text_is_a_recording_or_has_a_fault.Goals as goal

pub returns : goal.returns
returns c = record {
  some = has_recording_or_fault;
  recording = one_recording;
  fault = one_recording_fault;
  either = no_fault_of_recording;
}

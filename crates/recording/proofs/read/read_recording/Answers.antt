use Rattle.recording.proofs.RecordingLaws.{only_recording, fault_is, never_memory}
use Rattle.recording.proofs.read.read_recording.Goals as goal

pub returns-clause-only : goal.returns-clause-only
returns-clause-only c = only_recording c.args.text.now c.judge.result c.judge.ensures

pub returns-clause-no_memory : goal.returns-clause-no_memory
returns-clause-no_memory c = never_memory c.args.text.now c.judge.result c.judge.ensures

pub returns-clause-fault : goal.returns-clause-fault
returns-clause-fault c = fault_is c.args.text.now c.judge.result c.judge.ensures

use Rattle.recording.proofs.LeftLaws.{after_long, after_falling}
use Rattle.recording.proofs.RecordingLaws.{one_of_both}
use Rattle.recording.proofs.laws.the_first_fault_is_that_from_the_left.Goals as goal

pub returns : goal.returns
returns c = record { long = after_long; falling = after_falling; one = one_of_both }

use Rattle.recording.proofs.RestLaws.{rest_is_others, others_may_come, fault_of_rest}
use Rattle.recording.proofs.laws.the_rest_is_read_by_itself.Goals as goal

pub returns : goal.returns
returns c = record { others = rest_is_others; come = others_may_come; fault = fault_of_rest }

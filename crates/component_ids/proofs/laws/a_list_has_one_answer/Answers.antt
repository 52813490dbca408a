use Rattle.component_ids.proofs.FaultLaws.{one_value, one_fault, not_both}
use Rattle.component_ids.proofs.Judged.{has_answer}
use Rattle.component_ids.proofs.laws.a_list_has_one_answer.Goals as goal

pub returns : goal.returns
returns c = record { answer = has_answer; value = one_value; fault = one_fault; either = not_both }

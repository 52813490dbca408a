use Rattle.msg_head.proofs.FaultLaws.{one_fault}
use Rattle.msg_head.proofs.Outcomes.{no_fault_at_head_law, no_answer_yet_law}
use Rattle.msg_head.proofs.EachAnswers.{each_has_a_head_answer}
use Rattle.msg_head.proofs.laws.heads_have_one_answer.Goals as goal

pub returns-clause-some : goal.returns-clause-some
returns-clause-some c = each_has_a_head_answer

pub returns-clause-fault : goal.returns-clause-fault
returns-clause-fault c = one_fault

pub returns-clause-head : goal.returns-clause-head
returns-clause-head c = no_fault_at_head_law

pub returns-clause-unfinished : goal.returns-clause-unfinished
returns-clause-unfinished c = no_answer_yet_law

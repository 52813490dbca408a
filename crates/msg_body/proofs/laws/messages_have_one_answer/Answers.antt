use Rattle.msg_body.proofs.EachAnswers.{each_has_a_message_answer}
use Rattle.msg_body.proofs.OneMessages.{one_message_at_law, one_message_fault_law, no_fault_at_message_law, no_message_answer_yet_law}
use Rattle.msg_body.proofs.laws.messages_have_one_answer.Goals as goal

pub returns-clause-at : goal.returns-clause-at
returns-clause-at c = one_message_at_law

pub returns-clause-some : goal.returns-clause-some
returns-clause-some c = each_has_a_message_answer

pub returns-clause-fault : goal.returns-clause-fault
returns-clause-fault c = one_message_fault_law

pub returns-clause-message : goal.returns-clause-message
returns-clause-message c = no_fault_at_message_law

pub returns-clause-unfinished : goal.returns-clause-unfinished
returns-clause-unfinished c = no_message_answer_yet_law

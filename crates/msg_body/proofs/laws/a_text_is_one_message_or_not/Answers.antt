use Rattle.msg_body.proofs.WholeTexts.{is_whole_or_not, no_fault_of_whole, one_fault_of_text, one_whole}
use Rattle.msg_body.proofs.laws.a_text_is_one_message_or_not.Goals as goal

pub returns-clause-one : goal.returns-clause-one
returns-clause-one c = one_whole

pub returns-clause-fault : goal.returns-clause-fault
returns-clause-fault c = one_fault_of_text

pub returns-clause-none : goal.returns-clause-none
returns-clause-none c = no_fault_of_whole

pub returns-clause-either : goal.returns-clause-either
returns-clause-either c = is_whole_or_not

use Rattle.msg_head.proofs.Ends.{trailer_section_law}
use Rattle.msg_head.proofs.TrailerCuts.{one_trailer_law, trailer_end_law}
use Rattle.msg_head.proofs.TrailerFaults.{one_trailer_fault}
use Rattle.msg_head.proofs.TrailerAnswers.{no_fault_at_trailer_law, no_trailer_answer_yet_law}
use Rattle.msg_head.proofs.EachAnswers.{each_has_a_trailer_answer}
use Rattle.msg_head.proofs.laws.trailers_have_one_answer.Goals as goal

pub returns-clause-one : goal.returns-clause-one
returns-clause-one c = one_trailer_law

pub returns-clause-section : goal.returns-clause-section
returns-clause-section c = trailer_section_law

pub returns-clause-end : goal.returns-clause-end
returns-clause-end c = trailer_end_law

pub returns-clause-some : goal.returns-clause-some
returns-clause-some c = each_has_a_trailer_answer

pub returns-clause-fault : goal.returns-clause-fault
returns-clause-fault c = one_trailer_fault

pub returns-clause-trailer : goal.returns-clause-trailer
returns-clause-trailer c = no_fault_at_trailer_law

pub returns-clause-unfinished : goal.returns-clause-unfinished
returns-clause-unfinished c = no_trailer_answer_yet_law

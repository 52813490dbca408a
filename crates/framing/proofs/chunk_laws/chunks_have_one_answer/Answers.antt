use Rattle.framing.proofs.ChunkLaws.{one_fault, no_fault_at_chunks, no_answer_yet}
use Rattle.framing.proofs.Answered.{each_has_an_answer}
use Rattle.framing.proofs.chunk_laws.chunks_have_one_answer.Goals as goal

pub returns-clause-some : goal.returns-clause-some
returns-clause-some c = each_has_an_answer

pub returns-clause-fault : goal.returns-clause-fault
returns-clause-fault c = one_fault

pub returns-clause-chunks : goal.returns-clause-chunks
returns-clause-chunks c = no_fault_at_chunks

pub returns-clause-unfinished : goal.returns-clause-unfinished
returns-clause-unfinished c = no_answer_yet

-- Heads, chunks and trailer sections are decided, by the laws of their crates.
use Rattle.std.proofs.Common.{ℕ, List}
use Rattle.msg_head.specs.Heads.{SpellsHead, IsUnfinished}
use Rattle.msg_head.specs.Causes.{IsHeadError}
use Rattle.msg_head.specs.Trailers.{SpellsTrailer, IsTrailerUnfinished}
use Rattle.msg_head.specs.TrailerCauses.{IsTrailerError}
use Rattle.msg_head.proofs.OneHeads.{one_head_law}
use Rattle.msg_head.proofs.FaultLaws.{one_fault}
use Rattle.msg_head.proofs.Outcomes.{no_fault_at_head_law, no_answer_yet_law}
use Rattle.msg_head.proofs.TrailerCuts.{one_trailer_law}
use Rattle.msg_head.proofs.TrailerFaults.{one_trailer_fault}
use Rattle.msg_head.proofs.TrailerAnswers.{no_fault_at_trailer_law, no_trailer_answer_yet_law}
use Rattle.framing.specs.Chunks.{SpellsChunks}
use Rattle.framing.specs.ChunkCauses.{IsChunksError, AreChunksUnfinished}
use Rattle.framing.proofs.ChunkLaws.{one_chunks, one_fault as one_chunks_fault, no_fault_at_chunks, no_answer_yet as no_chunks_answer_yet}
use Rattle.msg_body.specs.tools.Decided.{IsDecided}

pub head_decided : (bytes : List ℕ) → IsDecided (λ head n. SpellsHead head n bytes) (IsHeadError bytes) (IsUnfinished bytes)
head_decided bytes = record {
  one = one_head_law bytes;
  one_fault = one_fault bytes;
  no_fault = no_fault_at_head_law bytes;
  open_fault = λ fault more. (no_answer_yet_law bytes more).0 fault;
  open_part = λ head n more. (no_answer_yet_law bytes more).1 head n;
}

pub trailer_decided : (bytes : List ℕ) → IsDecided (λ lines n. SpellsTrailer lines n bytes) (IsTrailerError bytes) (IsTrailerUnfinished bytes)
trailer_decided bytes = record {
  one = one_trailer_law bytes;
  one_fault = one_trailer_fault bytes;
  no_fault = no_fault_at_trailer_law bytes;
  open_fault = λ fault more. (no_trailer_answer_yet_law bytes more).0 fault;
  open_part = λ lines n more. (no_trailer_answer_yet_law bytes more).1 lines n;
}

pub chunks_decided : (bytes : List ℕ) → IsDecided (λ chunks n. SpellsChunks chunks n bytes) (IsChunksError bytes) (AreChunksUnfinished bytes)
chunks_decided bytes = record {
  one = λ one other n m a b. one_chunks bytes one other n m a.within b.within a.text b.text;
  one_fault = one_chunks_fault bytes;
  no_fault = no_fault_at_chunks bytes;
  open_fault = λ fault more. (no_chunks_answer_yet bytes more).0 fault;
  open_part = λ chunks n more. (no_chunks_answer_yet bytes more).1 chunks n;
}

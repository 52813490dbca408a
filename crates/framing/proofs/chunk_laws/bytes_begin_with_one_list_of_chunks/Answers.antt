use Rattle.framing.proofs.ChunkLaws.{one_chunks, no_chunks_in_prefix}
use Rattle.framing.proofs.chunk_laws.bytes_begin_with_one_list_of_chunks.Goals as goal

pub returns-clause-one : goal.returns-clause-one
returns-clause-one c = one_chunks

pub returns-clause-prefix : goal.returns-clause-prefix
returns-clause-prefix c = no_chunks_in_prefix

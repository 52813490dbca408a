use Rattle.framing.proofs.SizeLaws.{in_chunks_where_sized}
use Rattle.framing.proofs.chunk_laws.content_has_one_list_of_sized_chunks.Goals as goal

pub returns : goal.returns
returns c = in_chunks_where_sized

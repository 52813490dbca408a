use Rattle.framing.proofs.SizeLines.{line_of_size}
use Rattle.framing.proofs.chunk_laws.sizes_have_a_line.Goals as goal

pub returns : goal.returns
returns c = line_of_size

use Rattle.std.proofs.Common.{refl, codes}
use Rattle.list_texts.proofs.read.read_end.Goals as goal

pub read_each-requires : goal.read_each-requires
read_each-requires c = (codes "railer ", refl)

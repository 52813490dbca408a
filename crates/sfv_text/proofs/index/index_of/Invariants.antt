use Rattle.std.proofs.Common.{take}
use Rattle.sfv_text.specs.tools.Index.{ArePlacesOf}
use Rattle.sfv_text.proofs.index.index_of.Given as goal

abbrev pub invariant-loop-place : goal.invariant-loop-place
invariant-loop-place g l = ArePlacesOf l.index (take l.place l.pairs)

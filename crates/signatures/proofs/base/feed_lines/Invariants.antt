use Rattle.std.proofs.Common.{ℕ, List, ◌++◌, ◌==◌, take}
use Rattle.std.specs.List.{flat_map, zip}
use Rattle.signatures.specs.SignatureBase.{component_line}
use Rattle.signatures.specs.tools.Feed.{LacksEnd}
use Rattle.signatures.proofs.base.feed_lines.Given as goal

abbrev pub invariant-loop-index : goal.invariant-loop-index
invariant-loop-index g l = (text : List ℕ) → g.A.Absorb.absorbed l.initial.into text →
    LacksEnd (g.A.Absorb.absorbed l.into) (l.index == 0) (text ++ flat_map component_line (take l.index (zip l.prepared.params.ids l.prepared.values)))

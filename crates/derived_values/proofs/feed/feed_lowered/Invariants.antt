use Rattle.std.proofs.Common.{ℕ, List, ◌++◌, take}
use Rattle.std.specs.Str.{str_to_ascii_lowercase}
use Rattle.derived_values.proofs.feed.feed_lowered.Given as goal

abbrev pub invariant-loop-byte : goal.invariant-loop-byte
invariant-loop-byte g l = (fed : List ℕ) → g.A.Absorb.absorbed l.initial.into fed →
    g.A.Absorb.absorbed l.into (fed ++ str_to_ascii_lowercase (take l.byte-index l.text))

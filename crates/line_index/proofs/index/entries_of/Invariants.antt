use Rattle.std.proofs.Common.{◌≡◌, map}
use Rattle.std.specs.List.{range_with_len}
use Rattle.line_index.specs.tools.Index.{entry_of}
use Rattle.line_index.proofs.index.entries_of.Given as goal

abbrev pub invariant-loop-line : goal.invariant-loop-line
invariant-loop-line l = l.entries.items ≡ map (entry_of l.bytes l.spans) (range_with_len 0 l.line)

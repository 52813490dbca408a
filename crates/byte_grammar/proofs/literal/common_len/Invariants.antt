use Rattle.std.proofs.Common.{◌≡◌, ◌≤◌, ◌+◌, ◌-◌, length, drop}
use Rattle.byte_grammar.specs.tools.CountedWalk.{common_length}
use Rattle.byte_grammar.proofs.literal.common_len.Given as goal

abbrev pub invariant-loop-n : goal.invariant-loop-n
invariant-loop-n l = record {
  value : common_length l.text l.bytes ≡ l.n + common_length (drop l.n l.text) (drop l.n l.bytes);
  in_text : l.n ≤ length l.text;
  in_bytes : l.n ≤ length l.bytes;
}

abbrev pub decreases-loop-n : goal.decreases-loop-n
decreases-loop-n l = length l.text - l.n

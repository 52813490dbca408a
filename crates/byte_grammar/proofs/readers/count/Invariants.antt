use Rattle.std.proofs.Common.{◌-◌, ◌≡◌, ◌+◌, ◌≤◌, length, drop, take, true}
use Rattle.std.specs.List.{list_all}
use Rattle.byte_grammar.specs.Walk.{run_length}
use Rattle.byte_grammar.proofs.readers.count.Given as goal

abbrev pub invariant-loop-n : goal.invariant-loop-n
invariant-loop-n g l = record {
  within : l.n ≤ length l.bytes;
  all : list_all (g.C.ByteClass.members l.class) (take l.n l.bytes) ≡ true;
  most : l.n ≤ l.most;
  same : l.n + run_length (g.C.ByteClass.members l.class) (l.most - l.n) (drop l.n l.bytes) ≡ run_length (g.C.ByteClass.members l.class) l.most l.bytes;
}

abbrev pub decreases-loop-n : goal.decreases-loop-n
decreases-loop-n g l = l.most - l.n

use Rattle.std.proofs.Common.{◌≡◌, take, true}
use Rattle.std.specs.List.{list_all}
use Rattle.msg_head.proofs.slices.first_outside.Given as goal

abbrev pub invariant-loop-n : goal.invariant-loop-n
invariant-loop-n g l = list_all (g.C.ByteClass.members l.class) (take l.n l.chunk) ≡ true

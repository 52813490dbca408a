use Rattle.std.proofs.Common.{◌≡◌, replicate}
use Rattle.samples.proofs.script.sizes_of.Given as goal

abbrev pub invariant-loop : goal.invariant-loop
invariant-loop l = l.sizes ≡ replicate l.counter l.size

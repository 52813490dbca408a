use Rattle.std.proofs.Common.{◌≡◌, ◌+◌, ◌%◌, ◌++◌, map}
use Rattle.std.specs.List.{range_with_len}
use Rattle.samples.proofs.request.append_content.Given as goal

abbrev pub invariant-loop-j : goal.invariant-loop-j
invariant-loop-j l = l.text ≡ l.initial.text ++ map (λ k. (k + l.seed) % 256) (range_with_len 0 l.j)

use Rattle.std.proofs.Common.{◌≡◌, ◌++◌, map, take}
use Rattle.std.specs.Fmt.{decimal}
use Rattle.rewrite_script.specs.tools.Printed.{words_after}
use Rattle.rewrite_script.proofs.print.append_sizes.Given as goal

abbrev pub invariant-loop-size : goal.invariant-loop-size
invariant-loop-size l = l.text ≡ l.initial.text ++ words_after (map decimal (take l.size-index l.sizes))

use Rattle.std.proofs.Common.{◌≡◌, ◌++◌, take}
use Rattle.sfv_text.proofs.value.append_copies.Given as goal

abbrev pub invariant-loop-param : goal.invariant-loop-param
invariant-loop-param l = l.copies.items ≡ l.initial.copies.items ++ take l.param-index l.params

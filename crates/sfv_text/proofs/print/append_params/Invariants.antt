use Rattle.std.proofs.Common.{◌≡◌, ◌++◌, take}
use Rattle.std.specs.List.{flat_map}
use Rattle.sfv_text.specs.Strict.{param_text}
use Rattle.sfv_text.proofs.print.append_params.Given as goal

abbrev pub invariant-loop-param : goal.invariant-loop-param
invariant-loop-param l = l.text ≡ l.initial.text ++ flat_map param_text (take l.param-index l.pairs)

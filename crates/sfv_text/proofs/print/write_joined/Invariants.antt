use Rattle.std.proofs.Common.{◌≡◌, ◌++◌, take}
use Rattle.std.specs.List.{flat_map}
use Rattle.sfv_text.proofs.print.write_joined.Given as goal

abbrev pub invariant-loop-value : goal.invariant-loop-value
invariant-loop-value g l = l.text ≡ l.initial.text ++ flat_map (λ x. l.separator ++ g.T.Write.text_of x) (take l.value-index l.others)

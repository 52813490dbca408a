use Rattle.std.proofs.Common.{◌≡◌, ◌++◌, codes, take}
use Rattle.std.specs.Prelude.{map}
use Rattle.std.specs.List.{flat_map}
use Rattle.msg_head.specs.Values.{value}
use Rattle.normal_forms.proofs.line.append_joined.Given as goal

abbrev pub invariant-loop-raw : goal.invariant-loop-raw
invariant-loop-raw l =
    l.text ≡ l.initial.text ++ flat_map (λ text. codes ", " ++ text) (map value (map (λ raw. raw.now) (take l.raw-index l.others)))

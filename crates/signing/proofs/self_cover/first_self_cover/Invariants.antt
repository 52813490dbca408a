use Rattle.std.proofs.Common.{◌≡◌, false, take}
use Rattle.std.specs.List.{list_any}
use Rattle.signing.specs.SignCauses.{covers_itself}
use Rattle.signing.proofs.self_cover.first_self_cover.Given as goal

abbrev pub invariant-loop-index : goal.invariant-loop-index
invariant-loop-index l = list_any (covers_itself l.label) (take l.index l.ids) ≡ false

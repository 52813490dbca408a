use Rattle.std.proofs.Common.{◌≡◌, map, take}
use Rattle.sfv_text.specs.declared.pair.Pair.{Pair}
use Rattle.sfv_text.specs.declared.value.Member.{Member}
use Rattle.signatures.proofs.labels.keys_of.Given as goal

abbrev pub invariant-loop-member : goal.invariant-loop-member
invariant-loop-member l = l.keys ≡ map (λ (member : Pair Member). member.key) (take l.member-index l.members)

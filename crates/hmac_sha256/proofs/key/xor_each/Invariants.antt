use Rattle.std.proofs.Common.{◌≡◌, ◌++◌, take, drop}
use Rattle.hmac_sha256.specs.Hmac.{xor_each}
use Rattle.hmac_sha256.proofs.key.xor_each.Given as goal

-- the first bytes are under the pad
abbrev pub invariant-bytes : goal.invariant-bytes
invariant-bytes l = l.out ≡ xor_each l.pad (take l.i l.block) ++ drop l.i l.block

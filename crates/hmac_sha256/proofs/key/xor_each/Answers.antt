use Rattle.std.proofs.Common.{rules, bit_xor, slice_index, arith}
use Rattle.std.proofs.lemmas.List.Edits.{map_over_more}
use Rattle.hmac_sha256.proofs.key.xor_each.Goals as goal

pub bytes-preserved : goal.bytes-preserved
bytes-preserved c =
    map_over_more (λ byte. bit_xor byte c.args.pad) c.args.block.now c.bytes.out c.bytes.i
    (slice_index c.bytes.out c.bytes.i) (omega (arith, c.bytes-test.true)) c.bytes.invariant (search rules)

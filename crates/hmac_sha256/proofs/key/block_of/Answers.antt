use Rattle.std.proofs.lemmas.List.{drop-replicate}
use Rattle.hmac_sha256.proofs.key.block_of.Goals as goal

pub returns : goal.returns
returns c = rw (drop-replicate, c.copy_from_slice.ensures.after)

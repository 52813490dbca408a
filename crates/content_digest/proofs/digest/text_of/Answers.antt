use Rattle.std.proofs.Common.{arith}
use Rattle.content_digest.proofs.Bytes.{made_of_bytes}
use Rattle.content_digest.proofs.digest.text_of.Goals as goal

pub returns-clause-in_range : goal.returns-clause-in_range
returns-clause-in_range c = made_of_bytes c.from_bytes.result c.args.bytes.now c.from_bytes.ensures.ok (λ i. omega (arith, c.type_inv.bytes i))

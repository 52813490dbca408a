use Rattle.std.proofs.Common.{sym, subst, arith}
use Rattle.base64.specs.GeneralPurpose.{IsBytes}
use Rattle.sfv_read.proofs.byte_sequence.text_of.Goals as goal

pub returns-clause-bytes : goal.returns-clause-bytes
returns-clause-bytes c =
    subst IsBytes (sym c.in_ok-from_bytes.ensures.ok) (λ i. omega (arith, c.type_inv.bytes i))

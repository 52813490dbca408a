use Rattle.std.proofs.Common.{◌++◌, take}
use Rattle.framing.proofs.Digits.{no_length_later}
use Rattle.framing.proofs.length.Digits.with_piece.Goals as goal

pub with_digit-requires : goal.with_digit-requires
with_digit-requires c = (c.requires.0 ++ take c.loop-byte.byte-index c.args.piece.now, c.loop-byte.invariant c.requires.0 c.requires.1)

pub returns-in_err-digits-clause-none : goal.returns-in_err-digits-clause-none
returns-in_err-digits-clause-none c =
    rw c.from_residual.ensures (λ text are. no_length_later text c.args.piece.now c.loop-byte.byte-index c.loop-byte-test.true (c.in_err-digits.ensures.none (text ++ take c.loop-byte.byte-index c.args.piece.now) (c.loop-byte.invariant text are)))

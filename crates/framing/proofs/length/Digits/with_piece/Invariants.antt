use Rattle.std.proofs.Common.{ℕ, List, ◌++◌, take}
use Rattle.framing.specs.tools.Digits.{AreDigitsOf}
use Rattle.framing.proofs.length.Digits.with_piece.Given as goal

abbrev pub invariant-loop-byte : goal.invariant-loop-byte
invariant-loop-byte l = (text : List ℕ) → AreDigitsOf text l.fn.self → AreDigitsOf (text ++ take l.byte-index l.piece) l.digits

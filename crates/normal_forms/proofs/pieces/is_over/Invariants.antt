use Rattle.std.proofs.Common.{◌≡◌}
use Rattle.normal_forms.specs.tools.Pieces.{text_left}
use Rattle.normal_forms.proofs.pieces.is_over.Given as goal

abbrev pub invariant-loop-piece : goal.invariant-loop-piece
invariant-loop-piece l = text_left l.piece-iterator ≡ text_left l.fn.pieces

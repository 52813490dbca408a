use Rattle.std.proofs.Common.{◌≡◌, ◌↔◌, ◌+◌, ◌++◌, length}
use Rattle.normal_forms.specs.tools.Pieces.{text_bound, text_left}
use Rattle.normal_forms.proofs.pieces.are_same_text.Given as goal

abbrev pub invariant-pieces : goal.invariant-pieces
invariant-pieces l =
    (text_left l.fn.one ≡ text_left l.fn.other) ↔ (l.ours ++ text_left l.our_pieces ≡ l.theirs ++ text_left l.their_pieces)

abbrev pub decreases-pieces : goal.decreases-pieces
decreases-pieces l =
    text_bound l.our_pieces + text_bound l.their_pieces + (length (l.ours ++ text_left l.our_pieces) + length (l.theirs ++ text_left l.their_pieces))

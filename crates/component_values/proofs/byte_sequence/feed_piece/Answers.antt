use Rattle.std.proofs.Common.{◌≡◌, ◌+◌, [], ◌∷◌, ◌++◌, take, get_or, append_assoc}
use Rattle.std.proofs.lemmas.Grind.{take_at_read}
use Rattle.component_values.proofs.byte_sequence.feed_piece.Goals as goal

pub loop-byte-preserved : goal.loop-byte-preserved
loop-byte-preserved g c text done fed =
    let piece = c.args.piece.now in
    let i = c.loop-byte.byte-index in
    let more : take (i + 1) piece ≡ take i piece ++ get_or piece i 0 ∷ [] = (take_at_read piece i 0 c.loop-byte-test.true).1 in
    rw (more, ← append_assoc done (take i piece) (get_or piece i 0 ∷ [])) (c.feed_byte.ensures text (done ++ take i piece) (c.loop-byte.invariant text done fed))

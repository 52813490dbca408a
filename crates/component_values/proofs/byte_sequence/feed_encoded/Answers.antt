use Rattle.std.proofs.Common.{ℕ, List, [], ◌++◌, append_assoc, sym, ap, ◌∙◌}
use Rattle.msg_head.specs.LeftInLines.{value_left}
use Rattle.component_values.proofs.Encoded.{none_yet}
use Rattle.component_values.proofs.byte_sequence.feed_encoded.Goals as goal

pub loop-piece-init : goal.loop-piece-init
loop-piece-init g c = (
  [],
  ap value_left c.into_iter-piece-iterator.ensures.into_iter_gives ∙ c.value_pieces-piece-items.ensures.value,
  λ text fed. none_yet (g.A.Absorb.absorbed c.args.into.now) text fed,
)

pub loop-piece-preserved : goal.loop-piece-preserved
loop-piece-preserved g c =
    let done = c.loop-piece.invariant.0 in
    let piece = c.in-Some.piece.now in (
      done ++ piece,
      append_assoc done piece (value_left c.next.new.self) ∙ (ap (λ (x : List ℕ). done ++ x) (sym c.in-Some.ensures.steps) ∙ c.loop-piece.invariant.1),
      λ text fed. c.feed_piece.ensures text done (c.loop-piece.invariant.2 text fed),
    )

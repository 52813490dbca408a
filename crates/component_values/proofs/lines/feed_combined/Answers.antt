use Rattle.std.proofs.Common.{ℕ, List, ◌++◌, sym, ap, subst, ◌∙◌, append_assoc}
use Rattle.msg_body.specs.LeftInFields.{combined_left}
use Rattle.component_values.proofs.lines.feed_combined.Goals as goal

pub loop-piece-preserved : goal.loop-piece-preserved
loop-piece-preserved g c =
    let done = c.loop-piece.invariant.0 in
    let piece = c.in-Some.piece.now in (
      done ++ piece,
      append_assoc done piece (combined_left c.next.new.self) ∙ (ap (λ (x : List ℕ). done ++ x) (sym c.in-Some.ensures.steps) ∙ c.loop-piece.invariant.1),
      λ text a. subst (λ (x : List ℕ). g.A.Absorb.absorbed c.absorb.new.self x) (append_assoc text done piece)
          (c.absorb.ensures (text ++ done) (c.loop-piece.invariant.2 text a)),
    )

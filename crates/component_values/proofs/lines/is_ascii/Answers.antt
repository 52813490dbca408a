use Rattle.std.proofs.Common.{ℕ, List, ◌++◌, sym, ap, ◌∙◌, append_assoc}
use Rattle.msg_body.specs.LeftInFields.{combined_left}
use Rattle.component_values.proofs.Below.{ascii_more}
use Rattle.component_values.proofs.lines.is_ascii.Goals as goal

pub loop-piece-preserved : goal.loop-piece-preserved
loop-piece-preserved c =
    let done = c.loop-piece.invariant.0 in
    let piece = c.in-Some.piece.now in (
      done ++ piece,
      ascii_more done piece c.loop-piece.invariant.1 c.if-not-is_ascii.ensures.cases,
      append_assoc done piece (combined_left c.next.new.self) ∙ (ap (λ (x : List ℕ). done ++ x) (sym c.in-Some.ensures.steps) ∙ c.loop-piece.invariant.2),
    )

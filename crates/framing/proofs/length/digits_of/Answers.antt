use Rattle.std.proofs.Common.{◌++◌, sym, ap, ◌∙◌, append_assoc}
use Rattle.msg_head.specs.LeftInLines.{value_left}
use Rattle.framing.specs.Framings.{is_length}
use Rattle.framing.proofs.length.digits_of.Goals as goal

pub returns-in_err-digits-clause-none : goal.returns-in_err-digits-clause-none
returns-in_err-digits-clause-none c =
    let done = c.loop-piece.invariant.0 in
    let piece = c.in-Some.piece.now in
    let left = value_left c.next.new.self in
    let whole = append_assoc done piece left ∙ (ap (λ t. done ++ t) (sym c.in-Some.ensures.steps) ∙ c.loop-piece.invariant.1) in
    rw c.from_residual.ensures (sym (ap is_length whole) ∙ c.in_err-digits.ensures.none done c.loop-piece.invariant.2 left)

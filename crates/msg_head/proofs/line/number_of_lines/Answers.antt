use Rattle.std.proofs.Common.{ℕ, List, length, refl, sym, subst, ap, arith}
use Rattle.msg_head.specs.RawValues.{RawPieces}
use Rattle.msg_head.specs.Cuts.{AreLinesOf}
use Rattle.msg_head.proofs.Walks.{at_end, next_of}
use Rattle.msg_head.proofs.line.number_of_lines.Goals as goal

pub returns-then-begins_with_crlf-clause-there : goal.returns-then-begins_with_crlf-clause-there
returns-then-begins_with_crlf-clause-there c lines a =
    let left = c.lines.invariant.still lines a in
    let none = at_end c.lines.left.now left.0 left.1 (c.if-begins_with_crlf.ensures.yes refl) in
    omega (arith, left.2, ap (length {A = RawPieces}) none)

pub returns-in_default-clause-there : goal.returns-in_default-clause-there
returns-in_default-clause-there c lines a =
    let left = c.lines.invariant.still lines a in
    let next = next_of c.lines.left.now left.0 left.1 (c.if-begins_with_crlf.ensures.not refl) in
    absurd (c.in_default.ensures.there next.line _ next.begins.begins)

pub lines-preserved : goal.lines-preserved
lines-preserved c =
    record {
      within = omega (arith, c.in-Some.ensures.sized, c.lines.invariant.within);
      still = λ lines a.
          let left = c.lines.invariant.still lines a in
          let next = next_of c.lines.left.now left.0 left.1 (c.if-begins_with_crlf.ensures.not refl) in
          let there = c.in-Some.ensures.there next.line _ next.begins.begins in
          (next.others, subst (λ (s : List ℕ). AreLinesOf s next.others) (sym there.1) next.rest, omega (arith, left.2, ap (length {A = RawPieces}) next.are));
    }

use Rattle.std.proofs.Common.{◌≡◌, ℕ, List, length, sym, subst, ap, ◌∙◌, arith}
use Rattle.std.proofs.lemmas.List.{length-drop}
use Rattle.byte_grammar.specs.Classes.{is_blank}
use Rattle.byte_grammar.specs.Language.{starts_in}
use Rattle.msg_head.specs.tools.Texts.{BeginsWithPieces}
use Rattle.std.proofs.lemmas.Bool.{and_parts}
use Rattle.msg_head.proofs.Naked.{clean_after}
use Rattle.msg_head.proofs.Splits.{cr_found, at_cr, after_is, last_piece, next_piece, pieces_are}
use Rattle.msg_head.proofs.line.split_folded.Goals as goal

pub returns-in_err-n-clause-there : goal.returns-in_err-n-clause-there
returns-in_err-n-clause-there c pieces more b =
    let at = c.folds.invariant.still pieces more b in
    let found = cr_found at.0 more c.folds.left.now c.first_end.result at.1 c.first_end.ensures in
    absurd (cc (found, c.in_err-n.was))

pub returns-in_err-after-clause-there : goal.returns-in_err-after-clause-there
returns-in_err-after-clause-there c pieces more b =
    let at = c.folds.invariant.still pieces more b in
    let found = cr_found at.0 more c.folds.left.now c.first_end.result at.1 c.first_end.ensures in
    let same : c.in_ok-n.n ≡ length at.0.first = cc (found, c.in_ok-n.was) in
    absurd (c.in_err-after.ensures.none _ (c.rest_from.ensures ∙ at_cr at.0 more c.folds.left.now c.in_ok-n.n at.1 same))

pub returns-then-not-starts_with_blank-clause-clean : goal.returns-then-not-starts_with_blank-clause-clean
returns-then-not-starts_with_blank-clause-clean c =
    clean_after c.args.text.now c.folds.left.now c.in_ok-after.after.now c.in_ok-n.n c.folds.invariant.clean (rw c.in_ok-n.was at c.first_end.ensures) (sym c.rest_from.ensures ∙ c.in_ok-after.ensures.some)

pub returns-then-not-starts_with_blank-clause-there : goal.returns-then-not-starts_with_blank-clause-there
returns-then-not-starts_with_blank-clause-there c pieces more b =
    let at = c.folds.invariant.still pieces more b in
    let found = cr_found at.0 more c.folds.left.now c.first_end.result at.1 c.first_end.ensures in
    let same : c.in_ok-n.n ≡ length at.0.first = cc (found, c.in_ok-n.was) in
    let after = after_is at.0 more c.folds.left.now c.in_ok-after.after.now c.in_ok-n.n at.1 same (sym c.rest_from.ensures ∙ c.in_ok-after.ensures.some) in
    let ends = after ∙ last_piece at.0.continued more (and_parts _ _ at.1.are).1 (ap (starts_in is_blank) (sym after) ∙ sym c.if-not-starts_with_blank.ensures) in
    (pieces_are pieces more c.args.text.now c.in_ok-after.after.now b ends, ends)

pub folds-preserved : goal.folds-preserved
folds-preserved c =
    let size = ap (length {A = ℕ}) c.in_ok-after.ensures.some in
    record {
      clean = clean_after c.args.text.now c.folds.left.now c.in_ok-after.after.now c.in_ok-n.n c.folds.invariant.clean (rw c.in_ok-n.was at c.first_end.ensures) (sym c.rest_from.ensures ∙ c.in_ok-after.ensures.some);
      within = omega (arith, size, ap (length {A = ℕ}) c.rest_from.ensures, length-drop c.in_ok-n.n c.folds.left.now, c.folds.invariant.within);
      still = λ pieces more b.
          let at = c.folds.invariant.still pieces more b in
          let found = cr_found at.0 more c.folds.left.now c.first_end.result at.1 c.first_end.ensures in
          let same : c.in_ok-n.n ≡ length at.0.first = cc (found, c.in_ok-n.was) in
          let after = after_is at.0 more c.folds.left.now c.in_ok-after.after.now c.in_ok-n.n at.1 same (sym c.rest_from.ensures ∙ c.in_ok-after.ensures.some) in
          let next = next_piece at.0.continued more (and_parts _ _ at.1.are).1 at.1.ends (ap (starts_in is_blank) (sym after) ∙ sym c.if-not-starts_with_blank.ensures) in
          (next.0, subst (λ (s : List ℕ). BeginsWithPieces next.0 more s) (sym after) next.1);
    }

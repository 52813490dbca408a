use Rattle.std.proofs.Common.{sym, ◌∙◌, arith}
use Rattle.msg_head.proofs.Prefixes.{given_none}
use Rattle.msg_head.proofs.Naked.{split_at, clean_after, naked_here, all_plain, all_scanned}
use Rattle.msg_head.proofs.section.first_naked_end.Goals as goal

pub returns-in_default-clause-some : goal.returns-in_default-clause-some
returns-in_default-clause-some c =
    let left = c.pieces.left.now in
    let first = rw c.in_ok-n.was at c.memchr3.ensures in
    let split = split_at left c.in_ok-n.n first.0.high (λ k low. first.0.before k (omega arith) low) first.1 in
    naked_here c.args.section.now left c.in_ok-n.n c.pieces.invariant split (λ rest e. c.in_default.ensures.none rest (c.rest_from.ensures ∙ e))

pub pieces-preserved : goal.pieces-preserved
pieces-preserved c =
    clean_after c.args.section.now c.pieces.left.now c.in-Some.after.now c.in_ok-n.n c.pieces.invariant (rw c.in_ok-n.was at c.memchr3.ensures) (sym c.rest_from.ensures ∙ c.in-Some.ensures.some)

pub returns-in_err-n-clause-none : goal.returns-in_err-n-clause-none
returns-in_err-n-clause-none c =
    let none = rw c.in_err-n.was at c.memchr3.ensures in
    given_none c.from_residual.result (all_scanned c.args.section.now c.pieces.left.now c.requires c.pieces.invariant (all_plain c.pieces.left.now (λ k low. none k (omega arith) low)))

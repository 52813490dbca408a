use Rattle.std.proofs.Common.{◌≡◌, ◌==◌, length, sym, ap, ◌∙◌}
use Rattle.std.proofs.lemmas.Bool.{eqb-true, false≢true}
use Rattle.derived_values.proofs.Given.{given_none}
use Rattle.derived_values.proofs.AuthorityParts.{empty_literal, not_closed, literal_is}
use Rattle.derived_values.proofs.authority.read_literal.Goals as goal

pub returns-then-is_empty-clause-none : goal.returns-then-is_empty-clause-none
returns-then-is_empty-clause-none c =
    empty_literal _ _ _ _ c.in_ok-after.ensures.some c.read_all.ensures.joined c.read_all.ensures.all c.read_all.ensures.ends (eqb-true _ _ (sym c.if-is_empty.ensures))

pub returns-in_err-rest_after-clause-none : goal.returns-in_err-rest_after-clause-none
returns-in_err-rest_after-clause-none c = given_none c.from_residual-in_err-rest_after.result
    (not_closed _ _ _ _ c.in_ok-after.ensures.some c.read_all.ensures.joined c.read_all.ensures.all c.read_all.ensures.ends c.in_err-rest_after.ensures.none)

pub returns-clause-some : goal.returns-clause-some
returns-clause-some c =
    let some : length c.read_all.result.0.now ≡ 0 → ⊥ = λ e. false≢true (c.if-is_empty.ensures ∙ ap (λ n. n == 0) e) in
    let is = literal_is _ _ _ _ _ c.in_ok-after.ensures.some c.read_all.ensures.joined c.read_all.ensures.all some c.in_ok-rest_after.ensures.some in
    rw (c.split_at.ensures.front, c.split_at.ensures.back) is

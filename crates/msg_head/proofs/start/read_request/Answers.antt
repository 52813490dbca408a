use Rattle.std.proofs.Common.{◌≡◌, length, sym}
use Rattle.std.proofs.lemmas.Bool.{eqb-true}
use Rattle.msg_head.proofs.Prefixes.{given_none}
use Rattle.msg_head.proofs.StartParts.{empty_method, no_target, empty_target, no_version, other_version}
use Rattle.msg_head.proofs.start.read_request.Goals as goal

pub returns-then-is_empty-clause-none : goal.returns-then-is_empty-clause-none
returns-then-is_empty-clause-none c =
    let empty : length c.in_ok-method.method.now ≡ 0 = eqb-true _ _ (sym c.if-is_empty.ensures) in
    empty_method _ _ _ c.in_ok-method.ensures.some empty

pub returns-in_err-target-clause-none : goal.returns-in_err-target-clause-none
returns-in_err-target-clause-none c = given_none c.from_residual-in_err-target.result (no_target _ _ _ c.in_ok-method.ensures.some c.in_err-target.ensures.none)

pub returns-then-is_empty-2-clause-none : goal.returns-then-is_empty-2-clause-none
returns-then-is_empty-2-clause-none c =
    let empty : length c.in_ok-target.target.now ≡ 0 = eqb-true _ _ (sym c.if-is_empty-2.ensures) in
    empty_target _ _ _ _ _ c.in_ok-method.ensures.some c.in_ok-target.ensures.some empty

pub returns-in_err-version-clause-none : goal.returns-in_err-version-clause-none
returns-in_err-version-clause-none c = given_none c.from_residual-in_err-version.result (no_version _ _ _ _ _ c.in_ok-method.ensures.some c.in_ok-target.ensures.some c.in_err-version.ensures.none)

pub returns-then-not-is_version-clause-none : goal.returns-then-not-is_version-clause-none
returns-then-not-is_version-clause-none c =
    other_version _ _ _ _ _ _ _ c.in_ok-method.ensures.some c.in_ok-target.ensures.some c.in_ok-version.ensures.some (sym c.if-not-is_version.ensures)

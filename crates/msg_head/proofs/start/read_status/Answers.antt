use Rattle.std.proofs.Common.{sym}
use Rattle.msg_head.proofs.Prefixes.{given_none}
use Rattle.msg_head.proofs.StatusParts.{no_version, other_version, no_end, bad_code}
use Rattle.msg_head.proofs.start.read_status.Goals as goal

pub returns-in_err-version-clause-none : goal.returns-in_err-version-clause-none
returns-in_err-version-clause-none c = given_none c.from_residual.result (no_version _ c.in_err-version.ensures.none)

pub returns-then-not-is_version-clause-none : goal.returns-then-not-is_version-clause-none
returns-then-not-is_version-clause-none c = other_version _ _ _ c.in_ok-version.ensures.some (sym c.if-not-is_version.ensures)

pub returns-in_err-text-clause-none : goal.returns-in_err-text-clause-none
returns-in_err-text-clause-none c = given_none c.from_residual-in_err-text.result (no_end _ _ _ c.in_ok-version.ensures.some c.in_err-text.ensures.none)

pub returns-in_err-code-clause-none : goal.returns-in_err-code-clause-none
returns-in_err-code-clause-none c = given_none c.from_residual-in_err-code.result (bad_code _ _ _ _ _ c.in_ok-version.ensures.some c.in_ok-text.ensures.some c.in_err-code.ensures.none)

use Rattle.std.proofs.Common.{sym, ap, ◌∙◌, ◌-◌, List, ℕ, arith}
use Rattle.std.proofs.lemmas.Result.{err_from_is_err_and}
use Rattle.sfv_read.specs.tools.DisplayWalk.{continuation, continuations_read, appended}
use Rattle.sfv_read.proofs.DisplayLoops.{continuations_more, continuations_err, continuations_last}
use Rattle.sfv_read.proofs.display_string.append_continuations.Goals as goal

pub returns-in_err-byte : goal.returns-in_err-byte
returns-in_err-byte c =
    let p = err_from_is_err_and c.from_residual.result c.from_residual.ensures.1 in
    rw (p.1, p.2) (sym c.bytes.invariant ∙ continuations_err c.bytes.text c.bytes.firsts c.bytes.rest.now c.bytes.left _ c.bytes-test.true c.in_err-byte.ensures)

pub bytes-preserved : goal.bytes-preserved
bytes-preserved c =
    ap (λ (text : List ℕ). appended text (continuations_read (c.bytes.left - 1) continuation c.in_ok-byte.after.now)) c.in_ok-push.ensures.ok
    ∙ continuations_more c.bytes.text c.bytes.firsts c.bytes.rest.now c.bytes.left c.in_ok-byte.byte c.in_ok-byte.after.now c.bytes-test.true c.in_ok-byte.ensures
    ∙ c.bytes.invariant

pub returns : goal.returns
returns c = sym c.bytes.invariant ∙ continuations_last c.bytes.text c.bytes.firsts c.bytes.rest.now c.bytes.left (omega (arith, c.bytes-test.false))

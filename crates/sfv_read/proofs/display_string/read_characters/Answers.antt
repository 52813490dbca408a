use Rattle.std.proofs.Common.{refl, sym}
use Rattle.std.proofs.lemmas.Result.{err_from_is_err_and}
use Rattle.sfv_read.specs.tools.DisplayWalk.{display_characters_read}
use Rattle.sfv_read.proofs.DisplayLoops.{runs_more, runs_err, runs_less, runs_last}
use Rattle.sfv_read.proofs.Stopping.{stops_more}
use Rattle.sfv_read.proofs.display_string.read_characters.Goals as goal

pub runs-init : goal.runs-init
unfolding display_characters_read
runs-init c = rw (c.in_ok-text.ensures.ok, c.read_all.ensures.gives) refl

pub returns-in_err-rest : goal.returns-in_err-rest
returns-in_err-rest c =
    let p = err_from_is_err_and c.from_residual-in_err-rest.result c.from_residual-in_err-rest.ensures.1 in
    rw (p.1, p.2) (stops_more _ _ _ (runs_err c.runs.text c.runs.rest.now (sym c.runs-test.ensures.test) _ c.runs.invariant) c.in_err-rest.ensures)

pub runs-smaller : goal.runs-smaller
runs-smaller c = runs_less c.runs.text c.runs.rest.now c.append_run.new.text c.in_ok-rest.rest.now (sym c.runs-test.ensures.test) c.in_ok-rest.ensures

pub runs-preserved : goal.runs-preserved
runs-preserved c = runs_more c.runs.text c.runs.rest.now (sym c.runs-test.ensures.test) _ c.runs.invariant c.append_run.new.text c.in_ok-rest.rest.now c.in_ok-rest.ensures

pub returns : goal.returns
returns c = runs_last c.runs.text c.runs.rest.now _ c.runs.invariant (sym c.runs-test.ensures.test)

use Rattle.std.proofs.Common.{refl, sym, ap, ◌∙◌, List, ℕ}
use Rattle.std.proofs.lemmas.Result.{err_from_is_err_and}
use Rattle.byte_grammar.specs.tools.Walks.{turns_read, with_state}
use Rattle.byte_grammar.proofs.Loops.{state_last, state_err, state_more}
use Rattle.sfv_read.specs.tools.BareWalk.{with_run, next_run_read, characters_read}
use Rattle.sfv_read.proofs.Strings.{runs_step, runs_shorter, no_run, some_run, run_err}
use Rattle.sfv_read.proofs.string.read_characters.Goals as goal

pub runs-init : goal.runs-init
unfolding characters_read
runs-init c = rw (c.in_ok-text.ensures.ok, c.read_all.ensures.gives) refl

pub returns-in_err-run : goal.returns-in_err-run
returns-in_err-run c =
    let p = err_from_is_err_and c.from_residual-in_err-run.result c.from_residual-in_err-run.ensures.1 in
    rw (p.1, p.2) (state_err with_run next_run_read runs_step c.runs.text c.runs.rest.now _ c.runs.invariant _ (run_err c.runs.rest.now _ (sym c.runs-test.ensures.test) c.in_err-run.ensures))

pub runs-smaller : goal.runs-smaller
runs-smaller c = runs_shorter c.runs.rest.now c.in_ok-run.run'.now c.in_ok-run.after.now (some_run c.runs.rest.now _ _ (sym c.runs-test.ensures.test) c.in_ok-run.ensures)

pub runs-preserved : goal.runs-preserved
runs-preserved c =
    ap (λ (text : List ℕ). with_state with_run text (turns_read next_run_read c.in_ok-run.after.now)) c.in_ok-append.ensures.ok
    ∙ state_more with_run next_run_read runs_step c.runs.text c.runs.rest.now _ c.runs.invariant c.in_ok-run.run'.now c.in_ok-run.after.now (some_run c.runs.rest.now _ _ (sym c.runs-test.ensures.test) c.in_ok-run.ensures)

pub returns : goal.returns
returns c = state_last with_run next_run_read runs_step c.runs.text c.runs.rest.now _ c.runs.invariant _ (no_run c.runs.rest.now (sym c.runs-test.ensures.test))

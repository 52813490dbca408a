use Rattle.std.proofs.Common.{refl, ap, ◌∙◌, List}
use Rattle.std.proofs.lemmas.Result.{err_from_is_err_and}
use Rattle.byte_grammar.specs.tools.Walks.{turns_read, with_state}
use Rattle.byte_grammar.proofs.Loops.{state_last, state_err, state_more, some_next}
use Rattle.sfv_text.specs.declared.value.BareItem.{BareItem}
use Rattle.sfv_text.specs.declared.pair.Pair.{Pair}
use Rattle.sfv_read.specs.Item.{put_pair}
use Rattle.sfv_read.specs.tools.ItemWalk.{next_parameter_read, parameters_read}
use Rattle.sfv_read.proofs.Items.{params_step, params_shorter}
use Rattle.sfv_read.proofs.Stopping.{stops_more}
use Rattle.sfv_read.proofs.params.read_parameters.Goals as goal

pub params-init : goal.params-init
unfolding parameters_read
params-init c = rw (c.new-params.ensures) refl

pub returns-in_err-next : goal.returns-in_err-next
returns-in_err-next c =
    let p = err_from_is_err_and c.from_residual.result c.from_residual.ensures.1 in
    rw (p.1, p.2) (stops_more _ _ _ (state_err put_pair next_parameter_read params_step c.params.params c.params.rest.now _ c.params.invariant) c.in_err-next.ensures)

pub returns-in-None : goal.returns-in-None
returns-in-None c = state_last put_pair next_parameter_read params_step c.params.params c.params.rest.now _ c.params.invariant _ (some_next _ _ _ _ c.in_ok-next.ensures c.in-None.is)

pub params-smaller : goal.params-smaller
params-smaller c = params_shorter c.params.rest.now c.in-Some.param c.in_ok-next.after.now (some_next _ _ _ _ c.in_ok-next.ensures c.in-Some.is)

pub params-preserved : goal.params-preserved
params-preserved c =
    ap (λ (ps : List (Pair BareItem)). with_state put_pair ps (turns_read next_parameter_read c.in_ok-next.after.now)) c.in_ok-put-in-Some.ensures.ok
    ∙ state_more put_pair next_parameter_read params_step c.params.params c.params.rest.now _ c.params.invariant c.in-Some.param c.in_ok-next.after.now (some_next _ _ _ _ c.in_ok-next.ensures c.in-Some.is)

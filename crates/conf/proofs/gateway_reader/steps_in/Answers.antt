use Rattle.std.proofs.Common.{◌≡◌, List, get_or, subst, arith}
use Rattle.std.proofs.lemmas.Grind.{common_steps}
use Rattle.std.proofs.lemmas.Result.{err_from_is_err_and}
use Rattle.toml.specs.View.{array_view, items_view}
use Rattle.toml.specs.declared.value.Value.{Value}
use Rattle.conf.specs.tools.GatewayReads.{IsStepsFault}
use Rattle.conf.proofs.StepLaws.{so_far_all, step_fault}
use Rattle.conf.proofs.gateway_reader.steps_in.Goals as goal

pub returns-in_err-add_step-clause-err : goal.returns-in_err-add_step-clause-err
returns-in_err-add_step-clause-err c =
    let values = c.deref-value-items.result.now in
    let i = c.loop-value.value-index in
    let value = c.value-item.result in
    let at : get_or values i value ≡ value = grind (arith, common_steps) in
    let fault = step_fault values i value c.in_err-add_step.field-0.0 c.loop-value-test.true at c.in_err-add_step.ensures.err in
    let p = err_from_is_err_and c.from_residual.result c.from_residual.ensures.1 in
    rw (p.1, p.2) (subst (λ (given : List Value). IsStepsFault (items_view given) c.in_err-add_step.field-0.0) c.deref-value-items.ensures.value fault)

pub returns-clause-ok : goal.returns-clause-ok
returns-clause-ok c =
    so_far_all c.deref-value-items.result.now c.loop-value.value-index (array_view c.args.array.now) c.loop-value.script c.loop-value-test.false c.loop-value.invariant

use Rattle.std.proofs.Common.{◌≡◌, List, get_or, subst, arith}
use Rattle.std.proofs.lemmas.Grind.{common_steps}
use Rattle.std.proofs.lemmas.Result.{err_from_is_err_and}
use Rattle.toml.specs.Data.{Members, get_member}
use Rattle.toml.specs.View.{array_view, items_view, view}
use Rattle.toml.specs.declared.value.Value.{Value}
use Rattle.conf_values.specs.Parts.{tables_of}
use Rattle.conf.specs.tools.SectionReads.{IsGoodList, IsListFault, IsListsFault}
use Rattle.conf.proofs.TableLaws.{good_all, good_more, members_of_table, one_of_lists}
use Rattle.conf.proofs.lists.judge_lists.Goals as goal

pub loop-value-preserved : goal.loop-value-preserved
loop-value-preserved c =
    let values = c.deref-value-items.result.now in
    let value = c.value-item.result in
    let at : get_or values c.loop-value.value-index value ≡ value = grind (arith, common_steps) in
    let pairs = members_of_table c.as_table.result (view value) c.as_table.ensures in
    let good = subst (λ (pairs : Members). IsGoodList (get_member c.args.name.now pairs)) pairs c.in_ok-read_components.ensures.good in
    good_more c.args.name.now values c.loop-value.value-index c.loop-value-test.true value at good (tables_of (array_view c.args.array.now)) c.loop-value.invariant

pub returns-in_err-read_components-clause-err : goal.returns-in_err-read_components-clause-err
returns-in_err-read_components-clause-err c =
    let values = c.deref-value-items.result.now in
    let value = c.value-item.result in
    let name = c.args.name.now in
    let path = c.args.path.now in
    let f = c.in_err-read_components.field-0.0 in
    let at : get_or values c.loop-value.value-index value ≡ value = grind (arith, common_steps) in
    let pairs = members_of_table c.as_table.result (view value) c.as_table.ensures in
    let own = subst (λ (pairs : Members). IsListFault (get_member name pairs) path f) pairs c.in_err-read_components.ensures.err in
    let fault = one_of_lists name path values c.loop-value.value-index value f c.loop-value-test.true at own in
    let p = err_from_is_err_and c.from_residual.result c.from_residual.ensures.1 in
    rw (p.1, p.2) (subst (λ (given : List Value). IsListsFault name (tables_of (items_view given)) path f) c.deref-value-items.ensures.value fault)

pub returns-clause-ok : goal.returns-clause-ok
returns-clause-ok c =
    good_all c.args.name.now c.deref-value-items.result.now c.loop-value.value-index c.loop-value-test.false (tables_of (array_view c.args.array.now)) c.loop-value.invariant

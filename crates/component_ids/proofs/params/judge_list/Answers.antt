use Rattle.std.proofs.Common.{◌≡◌, map, sym, ◌∙◌}
use Rattle.component_ids.specs.Identifiers.{id_of, AreDistinct}
use Rattle.component_ids.specs.SignatureParams.{is_typed}
use Rattle.byte_grammar.proofs.Indices.{none_fails}
use Rattle.component_ids.proofs.FaultLaws.{ids_back, are_params, ill_typed_is}
use Rattle.component_ids.proofs.params.judge_list.Goals as goal

pub returns-in-Some-clause-explains : goal.returns-in-Some-clause-explains
returns-in-Some-clause-explains c =
    let items = c.args.list.now.items in
    let back : map id_of items ≡ c.in_ok-ids.ids = ids_back c.in_ok-ids.ids items (c.in_ok-ids.ensures.is ∙ c.as_slice.ensures) in
    let distinct : AreDistinct (map id_of items) = rw back c.in_ok-ids.ensures.distinct in
    (rw (← c.as_slice.ensures) c.in_ok-ids.ensures.each, distinct, ill_typed_is c.args.list.now.params c.in-Some.param.now c.in_ok-copy.field-0 c.in-Some.ensures c.in_ok-copy.ensures.ok)

pub returns-clause-explains : goal.returns-clause-explains
returns-clause-explains c =
    let list = c.args.list.now in
    let typed = none_fails is_typed list.params (sym c.in_default.ensures) in
    rw c.ids.view_is (are_params list (record { ids = c.in_ok-ids.ids; params = c.in_ok-copy-2.field-0 }) (c.in_ok-ids.ensures.is ∙ c.as_slice.ensures)
    c.in_ok-copy-2.ensures.ok (rw (← c.as_slice.ensures) c.in_ok-ids.ensures.each) c.in_ok-ids.ensures.distinct
    typed)

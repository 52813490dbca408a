use Rattle.std.proofs.Common.{subst, List, refl}
use Rattle.std.specs.List.{All}
use Rattle.std.proofs.lemmas.List.{take_all}
use Rattle.std.proofs.lemmas.List.Elements.{All-more}
use Rattle.component_ids.specs.declared.id.ComponentId.{ComponentId}
use Rattle.whole_rewrites.specs.Conditions.{KeepsParamIn}
use Rattle.whole_rewrites.proofs.permit_target.keeps_each.Goals as goal

pub loop-id-preserved : goal.loop-id-preserved
loop-id-preserved c =
    let Keeps = KeepsParamIn c.args.queries.now.query c.args.queries.now.other in
    All-more Keeps c.args.ids.now c.loop-id.id-index c.id-item.result c.loop-id-test.true c.loop-id.invariant (subst Keeps c.id-item.is (c.keeps_param.ensures.0 c.if-not-keeps_param.false))

pub returns : goal.returns
returns c =
    (λ yes. subst (λ (ids : List ComponentId). All (KeepsParamIn c.args.queries.now.query c.args.queries.now.other) ids) (take_all c.loop-id.id-index c.args.ids.now c.loop-id-test.false) c.loop-id.invariant, λ all. refl)

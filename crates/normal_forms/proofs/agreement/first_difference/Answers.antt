use Rattle.std.proofs.Common.{All, List, subst}
use Rattle.std.proofs.lemmas.List.{take_all}
use Rattle.msg_body.specs.Views.{message_of}
use Rattle.component_ids.specs.declared.id.ComponentId.{ComponentId}
use Rattle.normal_forms.specs.Agreement.{AgreeOn}
use Rattle.normal_forms.proofs.Agreeing.{all_more}
use Rattle.normal_forms.proofs.agreement.first_difference.Goals as goal

pub loop-index-preserved : goal.loop-index-preserved
loop-index-preserved c =
    let Agree = λ (id : ComponentId). AgreeOn (message_of c.args.message.now) (message_of c.args.other.now) id in
    let id = c.index-ids-index.result in
    all_more Agree c.args.ids.now c.loop-index.index id c.loop-index-test.true c.loop-index.invariant (subst Agree c.index-ids-index.is (c.agree_on.ensures.0 c.if-not-agree_on.false))

pub returns : goal.returns
returns c =
    let Agree = λ (id : ComponentId). AgreeOn (message_of c.args.message.now) (message_of c.args.other.now) id in
    subst (λ (ids : List ComponentId). All Agree ids) (take_all c.loop-index.index c.args.ids.now c.loop-index-test.false) c.loop-index.invariant

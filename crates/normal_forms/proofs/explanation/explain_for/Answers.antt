use Rattle.std.proofs.Common.{List, subst}
use Rattle.std.specs.List.{All}
use Rattle.msg_body.specs.Views.{message_of}
use Rattle.component_ids.specs.declared.id.ComponentId.{ComponentId}
use Rattle.component_values.specs.Context.{context_of}
use Rattle.normal_forms.specs.Agreement.{AgreeOn}
use Rattle.normal_forms.specs.Explanations.{DifferFirstAt}
use Rattle.normal_forms.proofs.OneExplanation.{differs_explained, same_explained}
use Rattle.normal_forms.proofs.explanation.explain_for.Goals as goal

pub returns-in-Some : goal.returns-in-Some
returns-in-Some c = λ label tag has.
    let one = message_of c.args.first.now.message.now in
    let other = message_of c.args.second.now.message.now in
    let apart = subst (λ (ids : List ComponentId). DifferFirstAt one other c.in-Some.index ids) c.as_slice.ensures c.in-Some.ensures in
    differs_explained (context_of c.args.first.now) (context_of c.args.second.now) label c.args.params.now tag has c.requires.basis c.in-Some.index apart

pub returns : goal.returns
returns c = λ label tag has.
    let one = message_of c.args.first.now.message.now in
    let other = message_of c.args.second.now.message.now in
    let agree = subst (λ (ids : List ComponentId). All (AgreeOn one other) ids) c.as_slice.ensures c.in_default.ensures in
    let made = c.in_ok-normal_steps.ensures in
    let also = c.in_ok-normal_steps-2.ensures in
    same_explained (context_of c.args.first.now) (context_of c.args.second.now) label c.args.params.now tag has c.requires.basis c.requires.first_whole c.requires.second_whole
    c.requires.same agree c.in_ok-normal_steps.field-0 c.in_ok-normal_steps-2.field-0 made.0 also.0 made.1 also.1

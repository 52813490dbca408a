use Rattle.component_values.specs.Context.{context_of}
use Rattle.msg_body.specs.Views.{message_of}
use Rattle.settings.specs.ConfMeaning.{meaning}
use Rattle.samples.proofs.TakenSteps.{context_is, walk_goes_on, walk_spells}
use Rattle.samples.proofs.hop.after_steps.Goals as goal

pub returns-in-Ok : goal.returns-in-Ok
returns-in-Ok c =
    let message = message_of c.args.message.now in
    let context = context_of c.context_for-context.result in
    let is = context_is context (meaning c.args.conf.now) message c.context_for-context.ensures c.requires.conf in
    walk_spells _ context message is c.args.steps.now _ _ c.in-Ok.text c.in-Ok.ensures

pub unreachable-requires : goal.unreachable-requires
unreachable-requires c =
    let message = message_of c.args.message.now in
    let context = context_of c.context_for-context.result in
    let is = context_is context (meaning c.args.conf.now) message c.context_for-context.ensures c.requires.conf in
    walk_goes_on _ context message is c.args.steps.now _ _ c.requires.lead.0 c.requires.lead.1 _ (rw c.in-Err-NotApplicable.field-0-is at c.in-Err-NotApplicable.ensures)

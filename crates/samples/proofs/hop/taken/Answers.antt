use Rattle.std.proofs.Common.{IfOk, refl, subst}
use Rattle.msg_body.specs.Messages.{Message}
use Rattle.msg_body.specs.Views.{message_of}
use Rattle.msg_body.proofs.OneMessages.{one_message_law}
use Rattle.rewrites.specs.Steps.{Step, Steps}
use Rattle.samples.specs.Chains.{sample_context}
use Rattle.samples.specs.tools.Made.{LeadsTo}
use Rattle.samples.proofs.TakenSteps.{read_whole, no_read_fault, within_limit}
use Rattle.samples.proofs.hop.taken.Goals as goal

pub whole_message-requires : goal.whole_message-requires
whole_message-requires c = rw c.bytes.ensures (within_limit c.args.text.now c.requires.lead.0 c.requires.lead.2)

pub after_steps-requires-clause-lead : goal.after_steps-requires-clause-lead
after_steps-requires-clause-lead c =
    let given = c.requires.lead in
    let own = read_whole c.of_any.result c.bytes.result.now c.args.text.now (message_of c.in-Ok.message) c.of_any.ensures c.bytes.ensures c.in-Ok.ensures.whole in
    let same = one_message_law _ c.args.text.now given.0 (message_of c.in-Ok.message) given.2 own in
    (given.1, subst (λ (m : Message). Steps Step (sample_context m) c.args.script.now given.1) same given.3)

pub returns-in-Ok : goal.returns-in-Ok
returns-in-Ok c = λ message spells.
    let own = read_whole c.of_any.result c.bytes.result.now c.args.text.now (message_of c.in-Ok.message) c.of_any.ensures c.bytes.ensures c.in-Ok.ensures.whole in
    subst (λ (m : Message). IfOk c.after_steps.result (LeadsTo m c.args.script.now)) (one_message_law _ c.args.text.now (message_of c.in-Ok.message) message own spells) c.after_steps.ensures

pub only_memory-requires : goal.only_memory-requires
only_memory-requires c = λ told.
    no_read_fault c.of_any.result c.bytes.result.now c.args.text.now c.requires.lead.0 c.in-Err.fault c.of_any.ensures c.bytes.ensures c.requires.lead.2 ((c.in-Err.ensures.fault c.in-Err.fault told).only refl)

use Rattle.std.proofs.Common.{sym, subst}
use Rattle.msg_body.specs.Messages.{IsMessage, Message, Spells}
use Rattle.msg_body.specs.Views.{message_of}
use Rattle.component_values.specs.Context.{answers_head, context_of}
use Rattle.signing.specs.Signed.{HasSomeSignature}
use Rattle.negotiation.proofs.Signing.{once_more}
use Rattle.negotiation.proofs.each.sign_again.Goals as goal

pub read_other_head-requires : goal.read_other_head-requires
read_other_head-requires c =
    let context = context_of c.args.context.now in
    let signed = c.requires.signed in
    (answers_head context.related, signed.head, signed.spells)

pub sign_beside-requires-clause-whole : goal.sign_beside-requires-clause-whole
sign_beside-requires-clause-whole c =
    let context = context_of c.args.context.now in
    let signed = c.requires.signed in
    let same = c.in-Ok.ensures.ok (answers_head context.related) signed.head signed.spells in
    subst (λ (m : Message). IsMessage (answers_head context.related) m) (sym same) signed.spells.is

pub sign_beside-requires-clause-signature : goal.sign_beside-requires-clause-signature
sign_beside-requires-clause-signature c =
    let context = context_of c.args.context.now in
    let signed = c.requires.signed in
    let same = c.in-Ok.ensures.ok (answers_head context.related) signed.head signed.spells in
    subst (λ (m : Message). HasSomeSignature m) (sym same) signed.has

pub returns-in-Ok : goal.returns-in-Ok
returns-in-Ok c =
    let context = context_of c.args.context.now in
    let signed = c.requires.signed in
    let same = c.in-Ok.ensures.ok (answers_head context.related) signed.head signed.spells in
    once_more context c.args.bytes.now c.args.spec.now c.sign_beside.result (message_of c.in-Ok.message)
    (subst (λ (m : Message). Spells (answers_head context.related) m c.args.bytes.now) (sym same) signed.spells) c.sign_beside.ensures.spells c.sign_beside.ensures.verifiable c.sign_beside.ensures.fault

pub returns-in-Err : goal.returns-in-Err
returns-in-Err c = rw c.only_memory.ensures (λ message spells. tt)

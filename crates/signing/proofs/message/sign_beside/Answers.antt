use Rattle.std.proofs.Common.{refl}
use Rattle.msg_body.specs.Messages.{message_text}
use Rattle.component_values.specs.Context.{context_of}
use Rattle.signing.proofs.Made.{signed_is, fault_is}
use Rattle.signing.proofs.Verifiable.{spells_is, verifiable_is}
use Rattle.signing.proofs.message.sign_beside.Goals as goal

pub returns-clause-ok : goal.returns-clause-ok
returns-clause-ok c = signed_is (context_of c.args.context.now) c.args.spec.now c.judge.result c.judge.ensures

pub returns-clause-fault : goal.returns-clause-fault
returns-clause-fault c = fault_is (context_of c.args.context.now) c.args.spec.now c.judge.result c.judge.ensures

pub returns-clause-verifiable : goal.returns-clause-verifiable
returns-clause-verifiable c =
    verifiable_is (context_of c.args.context.now) c.args.spec.now (message_text (context_of c.args.context.now).message) c.judge.result c.requires.valid (record { is = c.requires.whole; text = refl }) c.judge.ensures

pub returns-clause-spells : goal.returns-clause-spells
returns-clause-spells c =
    spells_is (context_of c.args.context.now) c.args.spec.now (message_text (context_of c.args.context.now).message) c.judge.result c.requires.valid (record { is = c.requires.whole; text = refl }) c.judge.ensures

use Rattle.msg_body.specs.Views.{message_of}
use Rattle.signatures.proofs.Digesting.{fault_answered}
use Rattle.signatures.proofs.digest.check_value.Goals as goal

pub returns-in-Err : goal.returns-in-Err
returns-in-Err c =
    fault_answered (message_of c.args.message.now) c.in-Err.fault c.reason_of.result c.reason_of.ensures
    (rw c.requires at c.in-Err.ensures.fault)

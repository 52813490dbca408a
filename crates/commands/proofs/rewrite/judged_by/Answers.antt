use Rattle.msg_body.specs.Views.{message_of}
use Rattle.commands.proofs.Rewriting.{not_read}
use Rattle.commands.proofs.rewrite.judged_by.Goals as goal

pub returns-in-Err-Rule : goal.returns-in-Err-Rule
returns-in-Err-Rule c =
    not_read (message_of c.args.context.now.message.now) c.args.label.now c.in-Err-Rule.field-0-0 c.in-Err-Rule.field-0-1 (rw c.in-Err-Rule.field-0-is at c.in-Err-Rule.ensures.fault)

use Rattle.component_values.specs.Context.{context_of}
use Rattle.msg_body.specs.Views.{message_of}
use Rattle.rewrites.proofs.Applied.{read_explained}
use Rattle.rewrites.proofs.step.judge.Goals as goal

pub returns : goal.returns
returns c =
    let context = context_of c.args.context.now in
    let message = message_of c.in-Ok-sized_message.message in
    read_explained context c.args.step.now c.in-Ok.text c.in-Ok.ensures.ok message
    (rw (c.bytes.ensures, c.answers_head.ensures, c.content_len-count.ensures) at c.in-Ok-sized_message.ensures.ok)

use Rattle.msg_body.specs.Views.{lines_on, message_of}
use Rattle.msg_head.specs.declared.error.Side.TheVariants.{Header}
use Rattle.whole_rewrites.proofs.ContentSteps.{no_only, two_named}
use Rattle.whole_rewrites.proofs.content.only_line.Goals as goal

pub returns-in_default : goal.returns-in_default
returns-in_default c = no_only c.args.name.now (lines_on Header (message_of c.args.message.now)) c.in_default.ensures.line

pub returns-in-Some-next_named : goal.returns-in-Some-next_named
returns-in-Some-next_named c =
    two_named c.args.name.now (lines_on Header (message_of c.args.message.now)) c.in-Some.index c.in-Some-next_named.field-0 c.in-Some.ensures.line c.in-Some-next_named.ensures.line

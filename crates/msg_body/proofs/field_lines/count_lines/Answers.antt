use Rattle.msg_body.specs.Views.{message_of, lines_on}
use Rattle.msg_body.proofs.LineCounts.{there_counted}
use Rattle.msg_body.proofs.field_lines.count_lines.Goals as goal

pub returns-clause-there : goal.returns-clause-there
returns-clause-there c =
    there_counted (lines_on c.args.side (message_of c.args.view.now)) c.lines_named.result c.args.name.now c.len.result c.lines_named.ensures c.len.ensures

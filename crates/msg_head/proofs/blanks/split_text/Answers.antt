use Rattle.msg_head.proofs.TextLaws.{text_first}
use Rattle.msg_head.proofs.blanks.split_text.Goals as goal

pub returns-clause-texts : goal.returns-clause-texts
returns-clause-texts c =
    (text_first c.split_at_end.result.0.now c.split_at_end.result.1.now c.args.bytes.now c.skip_last.result.now c.split_at_end.ensures c.requires c.skip_last.ensures).0

pub returns-clause-shorter : goal.returns-clause-shorter
returns-clause-shorter c =
    (text_first c.split_at_end.result.0.now c.split_at_end.result.1.now c.args.bytes.now c.skip_last.result.now c.split_at_end.ensures c.requires c.skip_last.ensures).1

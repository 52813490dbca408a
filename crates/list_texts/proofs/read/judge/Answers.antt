use Rattle.list_texts.proofs.TextLaws.{whole_list}
use Rattle.list_texts.proofs.read.judge.Goals as goal

pub returns-in-Ok-default-empty : goal.returns-in-Ok-default-empty
returns-in-Ok-default-empty c =
    whole_list c.args.text.now c.in-Ok-default-empty.list c.in-Ok-default-empty.field-0-1.now c.in-Ok-default-empty.ensures c.in-Ok-default-empty.len_below

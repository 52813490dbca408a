use Rattle.list_texts.proofs.TextLaws.{only_list, fault_is}
use Rattle.list_texts.proofs.read.read_fields.Goals as goal

pub returns-clause-only : goal.returns-clause-only
returns-clause-only c = only_list c.args.text.now c.judge.result c.judge.ensures

pub returns-clause-fault : goal.returns-clause-fault
returns-clause-fault c = fault_is c.args.text.now c.judge.result c.judge.ensures

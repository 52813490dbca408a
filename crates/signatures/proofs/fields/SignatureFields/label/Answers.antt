use Rattle.signatures.proofs.InRange.{read_in_range}
use Rattle.signatures.proofs.Reading.{is_read_so, answers_where}
use Rattle.signatures.proofs.fields.SignatureFields.label.Goals as goal

pub returns-clause-ok : goal.returns-clause-ok
returns-clause-ok c = λ message are. is_read_so message c.args.label.now c.judge_label.result (c.judge_label.ensures message are)

pub returns-clause-in_range : goal.returns-clause-in_range
returns-clause-in_range c = λ message are. read_in_range message c.args.label.now c.judge_label.result (c.judge_label.ensures message are)

pub returns-clause-fault : goal.returns-clause-fault
returns-clause-fault c = λ message are. answers_where message c.args.label.now c.judge_label.result (c.judge_label.ensures message are)

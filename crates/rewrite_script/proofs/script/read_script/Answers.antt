use Rattle.rewrite_script.proofs.Judged.{only_script, fault_is}
use Rattle.rewrite_script.proofs.script.read_script.Goals as goal

pub returns-clause-only : goal.returns-clause-only
returns-clause-only c = only_script c.args.text.now c.judge.result c.judge.ensures

pub returns-clause-fault : goal.returns-clause-fault
returns-clause-fault c = fault_is c.args.text.now c.judge.result c.judge.ensures

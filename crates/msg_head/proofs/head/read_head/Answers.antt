use Rattle.msg_head.proofs.Outcomes.{found_is, fault_is}
use Rattle.msg_head.proofs.head.read_head.Goals as goal

pub returns-clause-found : goal.returns-clause-found
returns-clause-found c = found_is c.args.bytes.now c.judge.result c.judge.ensures.explains

pub returns-clause-fault : goal.returns-clause-fault
returns-clause-fault c = fault_is c.args.bytes.now c.judge.result c.judge.ensures.explains

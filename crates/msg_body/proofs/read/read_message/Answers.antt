use Rattle.msg_body.proofs.Outcomes.{found_is, unfinished_is, fault_is}
use Rattle.msg_body.proofs.read.read_message.Goals as goal

pub returns-clause-found : goal.returns-clause-found
returns-clause-found c = found_is c.args.expect c.args.to_head c.args.bytes.now c.judge.result c.judge.ensures.explains

pub returns-clause-unfinished : goal.returns-clause-unfinished
returns-clause-unfinished c = unfinished_is c.args.expect c.args.to_head c.args.bytes.now c.judge.result c.judge.ensures.explains

pub returns-clause-fault : goal.returns-clause-fault
returns-clause-fault c = fault_is c.args.expect c.args.to_head c.args.bytes.now c.judge.result c.judge.ensures.explains

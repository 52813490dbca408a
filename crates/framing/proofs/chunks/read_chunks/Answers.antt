use Rattle.framing.proofs.Outcomes.{found_is, unfinished_is, fault_is}
use Rattle.framing.proofs.chunks.read_chunks.Goals as goal

pub returns-clause-found : goal.returns-clause-found
returns-clause-found c = found_is c.args.bytes.now c.judge.result c.judge.ensures

pub returns-clause-unfinished : goal.returns-clause-unfinished
returns-clause-unfinished c = unfinished_is c.args.bytes.now c.judge.result c.judge.ensures

pub returns-clause-fault : goal.returns-clause-fault
returns-clause-fault c = fault_is c.args.bytes.now c.judge.result c.judge.ensures

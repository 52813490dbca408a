use Rattle.msg_head.proofs.TrailerAnswers.{trailer_found_is, trailer_fault_is}
use Rattle.msg_head.proofs.trailer.read_trailer.Goals as goal

pub returns-clause-found : goal.returns-clause-found
returns-clause-found c = trailer_found_is c.args.bytes.now c.judge.result c.judge.ensures.explains

pub returns-clause-fault : goal.returns-clause-fault
returns-clause-fault c = trailer_fault_is c.args.bytes.now c.judge.result c.judge.ensures.explains

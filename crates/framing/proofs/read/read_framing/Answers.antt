use Rattle.msg_head.specs.Views.{head_of}
use Rattle.framing.proofs.FramingLaws.{is_error_where, is_ok_where}
use Rattle.framing.proofs.read.read_framing.Goals as goal

pub returns-clause-there : goal.returns-clause-there
returns-clause-there c = is_ok_where c.args.to_head (head_of c.args.head.now) c.judge.result c.judge.ensures

pub returns-clause-fault : goal.returns-clause-fault
returns-clause-fault c = is_error_where c.args.to_head (head_of c.args.head.now) c.judge.result c.judge.ensures

use Rattle.msg_head.proofs.Bytes.{found_end, no_end}
use Rattle.msg_head.proofs.blanks.split_at_end.Goals as goal

pub returns-in-Some : goal.returns-in-Some
returns-in-Some c =
    found_end c.args.bytes.now c.split_at.result.0.now c.split_at.result.1.now c.in-Some.n c.split_at.ensures.front c.split_at.ensures.back c.in-Some.ensures

pub returns-in-None : goal.returns-in-None
returns-in-None c = no_end c.args.bytes.now c.in-None.ensures

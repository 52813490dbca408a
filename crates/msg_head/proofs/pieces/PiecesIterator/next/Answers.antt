use Rattle.msg_head.proofs.TextLaws.{space_first}
use Rattle.msg_head.proofs.pieces.PiecesIterator.next.Goals as goal

pub returns-then-self-clause-steps : goal.returns-then-self-clause-steps
returns-then-self-clause-steps c =
    let gap = c.in_ok-left.ensures.some in
    rw c.if-self.true (space_first c.args.self.now.left.now c.in_ok-left.left.now gap.0 gap.1)

use Rattle.msg_head.proofs.OnePiece.{further_text}
use Rattle.msg_head.proofs.line.LineView.whole_value.Goals as goal

pub returns-in-Some-skip_gap-clause-none : goal.returns-in-Some-skip_gap-clause-none
returns-in-Some-skip_gap-clause-none c =
    let gap = c.in-Some.ensures.some in
    let next = c.in-Some-skip_gap.ensures.some in
    further_text c.args.self.raw.now c.in-Some.left.now c.split_text.result.0.now c.split_text.result.1.now c.in-Some-skip_gap.field-0.now gap.0 c.split_text.ensures.texts next.0 next.1

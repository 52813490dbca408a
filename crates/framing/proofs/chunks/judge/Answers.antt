use Rattle.std.proofs.Common.{◌∙◌, Err, ap, arith}
use Rattle.framing.proofs.ChunkLaws.{unfinished, bad}
use Rattle.framing.proofs.Outcomes.{bad_first}
use Rattle.framing.proofs.chunks.judge.Goals as goal

pub returns-then-left-eq0 : goal.returns-then-left-eq0
returns-then-left-eq0 c =
    let stop = rw c.in-Err-Left.field-0-is at c.in-Err-Left.ensures.err in
    unfinished c.args.bytes.now (stop.0 ∙ ap Err c.if-left-eq0.true) stop.1

pub overflow_sub-result : goal.overflow_sub-result
overflow_sub-result c =
    let stop = rw c.in-Err-Left.field-0-is at c.in-Err-Left.ensures.err in
    (bad c.args.bytes.now c.in-Err-Left.left stop.0 (omega (arith, c.if-left-eq0.false))).0

pub returns-else-left-eq0 : goal.returns-else-left-eq0
returns-else-left-eq0 c =
    let stop = rw c.in-Err-Left.field-0-is at c.in-Err-Left.ensures.err in
    bad_first c.args.bytes.now _ (bad c.args.bytes.now c.in-Err-Left.left stop.0 (omega (arith, c.if-left-eq0.false))).1 stop.1

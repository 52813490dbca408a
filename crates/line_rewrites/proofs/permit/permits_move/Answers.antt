use Rattle.std.proofs.Common.{sym, arith}
use Rattle.msg_body.specs.Views.{lines_on, message_of}
use Rattle.msg_head.specs.Views.{field_line_of}
use Rattle.line_rewrites.proofs.Passing.{passes_backward, passes_forward}
use Rattle.line_rewrites.proofs.permit.permits_move.Goals as goal

pub returns-then-index-to : goal.returns-then-index-to
returns-then-index-to c =
    let lines = lines_on c.args.side (message_of c.args.message.now) in
    passes_forward lines c.args.index c.args.to (field_line_of c.in-Some.line) c.is_between.result (sym c.in-Some.ensures.line) (omega (arith, c.if-to-line_count.false, c.line_count.ensures)) c.if-index-to.true c.is_between.ensures

pub returns-else-index-to : goal.returns-else-index-to
returns-else-index-to c =
    let lines = lines_on c.args.side (message_of c.args.message.now) in
    passes_backward lines c.args.index c.args.to (field_line_of c.in-Some.line) c.is_between-else-index-to.result (sym c.in-Some.ensures.line) c.if-index-to.false c.is_between-else-index-to.ensures

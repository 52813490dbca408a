use Rattle.std.proofs.Common.{◌∙◌, sym}
use Rattle.msg_head.specs.Views.{field_line_of}
use Rattle.msg_body.specs.Views.{lines_on, message_of}
use Rattle.whole_rewrites.proofs.FieldTexts.{next_named}
use Rattle.whole_rewrites.proofs.field.first_named.Goals as goal

pub loop-index-preserved : goal.loop-index-preserved
loop-index-preserved c =
    next_named (lines_on c.args.side (message_of c.args.message.now)) c.loop-index.index (field_line_of c.line-line.result) c.args.name.now c.line-line.ensures (sym c.is_named.ensures ∙ c.if-is_named.false) c.loop-index.invariant

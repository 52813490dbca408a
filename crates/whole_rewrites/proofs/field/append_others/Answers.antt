use Rattle.std.proofs.Common.{◌++◌, drop}
use Rattle.msg_head.specs.Views.{field_line_of}
use Rattle.msg_body.specs.Views.{lines_on, message_of}
use Rattle.line_rewrites.specs.Sides.{lines_text}
use Rattle.whole_rewrites.specs.tools.Fields.{without_name}
use Rattle.whole_rewrites.proofs.FieldTexts.{further_line}
use Rattle.whole_rewrites.proofs.field.append_others.Goals as goal

pub loop-index-preserved : goal.loop-index-preserved
loop-index-preserved c =
    let lines = lines_on c.args.side (message_of c.args.message.now) in
    further_line c.args.name.now lines c.loop-index.index (field_line_of c.line.result) (c.args.into.now ++ lines_text (without_name c.args.name.now (drop c.args.from lines))) c.loop-index.into
    c.append_unless_named.new.into c.line.ensures c.loop-index.invariant c.in_ok-append_unless_named.ensures

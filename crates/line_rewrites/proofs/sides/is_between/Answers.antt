use Rattle.std.proofs.Common.{sym, ◌∙◌, true, false}
use Rattle.std.specs.Str.{str_to_ascii_lowercase}
use Rattle.msg_head.specs.Views.{field_line_of}
use Rattle.msg_body.specs.Views.{message_of, lines_on}
use Rattle.line_rewrites.proofs.Slices.{between_more, between_next}
use Rattle.line_rewrites.proofs.sides.is_between.Goals as goal

pub returns-then-is_same_name : goal.returns-then-is_same_name
returns-then-is_same_name c =
    let lines = lines_on c.args.side (message_of c.args.message.now) in
    let name = str_to_ascii_lowercase c.args.line.name.now in
    sym (between_more lines c.args.from c.loop-index.index c.args.to name c.loop-index.auto.index c.loop-index-test.true
    (between_next lines c.args.from c.loop-index.index (field_line_of c.line.result) name true c.loop-index.auto.index c.line.ensures (sym c.is_same_name.ensures ∙ c.if-is_same_name.true) c.loop-index.invariant))

pub loop-index-preserved : goal.loop-index-preserved
loop-index-preserved c =
    let lines = lines_on c.args.side (message_of c.args.message.now) in
    let name = str_to_ascii_lowercase c.args.line.name.now in
    between_next lines c.args.from c.loop-index.index (field_line_of c.line.result) name false c.loop-index.auto.index c.line.ensures (sym c.is_same_name.ensures ∙ c.if-is_same_name.false) c.loop-index.invariant

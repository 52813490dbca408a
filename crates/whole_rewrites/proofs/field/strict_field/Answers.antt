use Rattle.std.proofs.Common.{Ok, Err, ap}
use Rattle.msg_head.specs.Values.{combined_value, joined_value}
use Rattle.msg_body.specs.Views.{lines_on, message_of}
use Rattle.component_ids.specs.Types.{kind_in}
use Rattle.whole_rewrites.proofs.FieldTexts.{no_strict, strict_said}
use Rattle.whole_rewrites.proofs.field.strict_field.Goals as goal

pub returns-in-Ok : goal.returns-in-Ok
returns-in-Ok c =
    strict_said c.kind_of.result (kind_in c.args.context.now.types.now c.args.name.now) _ (combined_value (lines_on c.args.side (message_of c.args.context.now.message.now)) c.args.name.now) _ (Ok c.in-Ok.strict)
    c.kind_of.ensures (ap joined_value c.lines_named-lines.ensures) c.in-Ok.is c.in_ok-answer.ensures

pub returns-in-Err : goal.returns-in-Err
returns-in-Err c =
    let kind = kind_in c.args.context.now.types.now c.args.name.now in
    let text = combined_value (lines_on c.args.side (message_of c.args.context.now.message.now)) c.args.name.now in
    no_strict kind text c.in-Err.field-0
    (strict_said c.kind_of.result kind _ text _ (Err c.in-Err.field-0) c.kind_of.ensures (ap joined_value c.lines_named-lines.ensures) c.in-Err.is c.in_ok-answer.ensures)

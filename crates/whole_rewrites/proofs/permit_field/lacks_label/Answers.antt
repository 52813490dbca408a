use Rattle.std.proofs.Common.{◌≡◌, true, sym, ap, ◌∙◌}
use Rattle.msg_body.proofs.FoundLines.{none_there, some_there}
use Rattle.msg_body.specs.Views.{message_of, lines_on}
use Rattle.msg_head.specs.Values.{is_there, joined_value}
use Rattle.msg_head.specs.declared.error.Side.TheVariants.{Header}
use Rattle.whole_rewrites.proofs.FieldPermits.{absent_lacks, read_lacks, unread_lacks}
use Rattle.whole_rewrites.proofs.permit_field.lacks_label.Goals as goal

pub returns-then-is_empty : goal.returns-then-is_empty
returns-then-is_empty c =
    let message = message_of c.args.message.now in
    absent_lacks message c.args.name.now c.args.label.now (none_there (lines_on Header message) c.lines_named-lines.result c.args.name.now c.lines_named-lines.ensures (sym c.is_empty.ensures ∙ c.if-is_empty.true))

pub returns-in-Ok : goal.returns-in-Ok
returns-in-Ok c =
    let message = message_of c.args.message.now in
    let there : is_there (lines_on Header message) c.args.name.now ≡ true =
    some_there (lines_on Header message) c.lines_named-lines.result c.args.name.now c.lines_named-lines.ensures (sym c.is_empty.ensures ∙ c.if-is_empty.false) in
    read_lacks message c.args.name.now c.args.label.now c.bytes.result.now there (c.bytes.ensures ∙ (c.in_ok-value.ensures ∙ ap joined_value c.lines_named-lines.ensures)) c.in-Ok.has c.in-Ok.ensures.ok

pub returns : goal.returns
returns c =
    let message = message_of c.args.message.now in
    let there : is_there (lines_on Header message) c.args.name.now ≡ true =
    some_there (lines_on Header message) c.lines_named-lines.result c.args.name.now c.lines_named-lines.ensures (sym c.is_empty.ensures ∙ c.if-is_empty.false) in
    unread_lacks message c.args.name.now c.args.label.now c.bytes.result.now there (c.bytes.ensures ∙ (c.in_ok-value.ensures ∙ ap joined_value c.lines_named-lines.ensures)) (rw c.in-Err-Syntax.field-0-is at c.in-Err-Syntax.ensures.only)

use Rattle.msg_body.specs.Views.{message_of}
use Rattle.signing.proofs.Inserting.{are_parts, ends_within, to_the_end}
use Rattle.signing.proofs.parts.parts_of.Goals as goal

pub split_at-requires : goal.split_at-requires
split_at-requires c =
    let message = message_of c.args.message.now in
    ends_within message c.bytes.result.now c.line_offset-end.result c.bytes.ensures (to_the_end message c.line_count-lines.result c.line_offset-end.result c.line_count-lines.ensures c.line_offset-end.ensures)

pub returns : goal.returns
returns c =
    let message = message_of c.args.message.now in
    are_parts message c.bytes.result.now c.line_offset-end.result _ c.bytes.ensures (to_the_end message c.line_count-lines.result c.line_offset-end.result c.line_count-lines.ensures c.line_offset-end.ensures)
    c.split_at.ensures.front c.split_at.ensures.back c.line_count-lines.ensures

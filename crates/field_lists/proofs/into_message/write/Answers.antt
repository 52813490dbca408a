use Rattle.field_lists.specs.tools.Views.{control_of}
use Rattle.field_lists.proofs.Written.{whole_written}
use Rattle.field_lists.proofs.into_message.write.Goals as goal

pub returns : goal.returns
returns c =
    let parts = c.args.parts in
    whole_written c.new-text.result c.append_head.new.text c.append_body.new.text (control_of parts.control) parts.others.now parts.list.now c.is_in_chunks-in_chunks.result c.is_in_chunks-in_chunks.ensures c.new-text.ensures c.in_ok-append_head.ensures
    c.in_ok-append_body.ensures

use Rattle.field_lists.proofs.Written.{body_parts, on_ok}
use Rattle.field_lists.proofs.into_message.append_chunked.Goals as goal

pub returns : goal.returns
returns c =
    on_ok c.append.result
    (body_parts c.args.text.now c.append_chunk.new.text c.append_lines.new.text c.append.new.self c.bytes.result.now c.as_slice.result.now c.args.list.now c.bytes.ensures c.as_slice.ensures c.in_ok-append_chunk.ensures c.in_ok-append_lines.ensures)
    c.append.ensures.ok

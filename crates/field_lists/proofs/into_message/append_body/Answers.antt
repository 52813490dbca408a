use Rattle.field_lists.proofs.Written.{body_in_chunks, on_ok, plain_body}
use Rattle.field_lists.proofs.into_message.append_body.Goals as goal

pub returns-then-in_chunks : goal.returns-then-in_chunks
returns-then-in_chunks c = on_ok c.append_chunked.result (body_in_chunks c.args.text.now c.append_chunked.new.text c.args.list.now c.args.in_chunks c.if-in_chunks.true) c.append_chunked.ensures

pub returns : goal.returns
returns c = on_ok c.append.result (plain_body c.args.text.now c.append.new.self c.bytes.result.now c.args.list.now c.args.in_chunks c.if-in_chunks.false c.bytes.ensures) c.append.ensures.ok

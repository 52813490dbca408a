use Rattle.field_lists.proofs.Written.{on_ok, status_start}
use Rattle.field_lists.proofs.into_message.append_status.Goals as goal

pub returns : goal.returns
returns c = on_ok c.append.result (status_start c.args.text.now c.append_words.new.text c.append.new.self c.args.code.now c.in_ok-append_words.ensures) c.append.ensures.ok

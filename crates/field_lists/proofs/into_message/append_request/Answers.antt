use Rattle.field_lists.specs.tools.Views.{request_of}
use Rattle.field_lists.proofs.Written.{on_ok, request_start}
use Rattle.field_lists.proofs.into_message.append_request.Goals as goal

pub returns : goal.returns
returns c =
    on_ok c.append_line.result
    (request_start c.args.text.now c.append_words.new.text c.append_words-2.new.text c.append_line.new.text (request_of c.args.control) c.in_ok-append_words.ensures c.in_ok-append_words-2.ensures) c.append_line.ensures

use Rattle.field_lists.specs.tools.Views.{control_of}
use Rattle.field_lists.proofs.Written.{head_parts, on_ok}
use Rattle.field_lists.proofs.into_message.append_head.Goals as goal

pub returns : goal.returns
returns c =
    on_ok c.append.result
    (head_parts c.args.text.now c.append_start.new.text c.append_lines.new.text c.append_coding.new.text c.append.new.self (control_of c.args.parts.control) c.args.parts.others.now c.args.in_chunks c.in_ok-append_start.ensures c.in_ok-append_lines.ensures c.in_ok-append_coding.ensures)
    c.append.ensures.ok

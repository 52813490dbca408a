use Rattle.std.proofs.Common.{ap, length}
use Rattle.component_ids.specs.Identifiers.{id_text}
use Rattle.component_ids.proofs.SpanLaws.{part_added}
use Rattle.component_ids.proofs.params_text.write_id.Goals as goal

pub returns-clause-parts : goal.returns-clause-parts
returns-clause-parts c parts has =
    rw c.in_ok-push.ensures.items
    (part_added c.args.text.now c.append_id.new.text (id_text c.args.id.now) c.args.spans.now.items parts (length c.bytes-begin.result.now) (length c.bytes-end.result.now)
    c.in_ok-append_id.ensures (ap length c.bytes-begin.ensures) (ap length c.bytes-end.ensures) has)

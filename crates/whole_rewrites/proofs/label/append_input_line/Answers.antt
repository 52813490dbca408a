use Rattle.std.specs.Prelude.{codes}
use Rattle.whole_rewrites.proofs.FieldTexts.{member_written, on_ok}
use Rattle.whole_rewrites.proofs.label.append_input_line.Goals as goal

pub returns : goal.returns
returns c = on_ok c.append-2.result _ _
    (member_written c.args.into.now (codes "Signature-Input") c.args.label.now c.args.params.now _ _ _ c.in_ok-append_member_start.ensures c.in_ok-append.ensures.ok) c.append-2.ensures.ok

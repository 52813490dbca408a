use Rattle.std.specs.Prelude.{codes}
use Rattle.whole_rewrites.proofs.FieldTexts.{bytes_written, on_ok}
use Rattle.whole_rewrites.proofs.label.append_signature_line.Goals as goal

pub returns : goal.returns
returns c = on_ok c.append-3.result _ _
    (bytes_written c.args.into.now (codes "Signature") c.args.label.now c.args.tag.now _ _ _ _ c.in_ok-append_member_start.ensures c.in_ok-append.ensures.ok c.in_ok-append-2.ensures.ok)
    c.append-3.ensures.ok

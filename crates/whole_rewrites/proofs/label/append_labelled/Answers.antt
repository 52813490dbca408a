use Rattle.std.specs.Prelude.{codes, ◌++◌}
use Rattle.whole_rewrites.specs.Lines.{member_line}
use Rattle.whole_rewrites.proofs.FieldTexts.{labelled_written, on_ok}
use Rattle.whole_rewrites.proofs.label.append_labelled.Goals as goal

pub returns : goal.returns
returns c =
    let input = member_line (codes "Signature-Input") c.args.label.now c.args.params.now in
    let signature = member_line (codes "Signature") c.args.label.now (codes ":" ++ (c.args.tag.now ++ codes ":")) in
    on_ok c.append-2.result _ _
    (labelled_written c.args.lines.now c.args.into.now input signature c.count-count.result _ _ _ _ _ _ c.count-count.ensures c.before-2.ensures c.rest_from.ensures c.in_ok-append.ensures.ok
    c.in_ok-append_input_line.ensures c.in_ok-append_signature_line.ensures)
    c.append-2.ensures.ok

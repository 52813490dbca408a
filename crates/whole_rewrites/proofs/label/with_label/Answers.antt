use Rattle.std.proofs.Common.{◌∙◌, refl}
use Rattle.component_values.specs.Context.{context_of}
use Rattle.whole_rewrites.proofs.FieldTexts.{label_offered}
use Rattle.whole_rewrites.proofs.label.with_label.Goals as goal

pub returns : goal.returns
returns c =
    label_offered (context_of c.args.context.now) c.args.label.now c.args.tag.now c.args.params.now _ c.requires.writable c.requires.whole
    (c.in_ok-append_labelled.ensures ∙ rw (c.in_ok-rewritten.ensures.ok, c.header_of-lines.ensures) refl)

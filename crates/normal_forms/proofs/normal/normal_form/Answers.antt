use Rattle.component_values.specs.Context.{answers_head, context_of}
use Rattle.normal_forms.specs.Steps.{normal_message}
use Rattle.normal_forms.proofs.MadeParts.{leads}
use Rattle.normal_forms.proofs.normal.normal_form.Goals as goal

pub returns-clause-ok : goal.returns-clause-ok
returns-clause-ok c =
    let context = context_of c.args.context.now in
    let to_head = answers_head context.related in
    let parts = c.in_ok-parts.parts in
    let normal = normal_message to_head context.message parts.header.items parts.trailer.items in
    let signed = c.requires.signature in (
      normal,
      leads context c.args.label.now c.args.params.now signed.0 parts.steps normal c.requires.whole signed.1 c.in_ok-parts.ensures,
      c.in_ok-message.ensures to_head,
    )

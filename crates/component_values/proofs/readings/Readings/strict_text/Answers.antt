use Rattle.std.proofs.Common.{Option, ap, sym, subst, ◌∙◌}
use Rattle.msg_head.specs.Values.{joined_value}
use Rattle.component_ids.specs.Types.{kind_in}
use Rattle.component_ids.specs.declared.types.FieldKind.{FieldKind}
use Rattle.component_values.specs.Context.{context_of}
use Rattle.component_values.specs.Readings.{field_of, text_at}
use Rattle.component_values.specs.tools.Rows.{field_meant}
use Rattle.component_values.specs.Values.{KindRow}
use Rattle.component_values.specs.declared.context_field.ContextField.{ContextField}
use Rattle.component_values.proofs.FieldAnswers.{after_each, has_kept, has_new, strict_more}
use Rattle.component_values.proofs.readings.Readings.strict_text.Goals as goal

pub returns-clause-readings : goal.returns-clause-readings
returns-clause-readings c =
    let context = context_of c.args.context.now in
    let text = joined_value c.args.lines in
    let is = ap (text_at context) c.of-field.ensures ∙ c.requires.lines in
    let kind = c.kind_of-kind.ensures ∙ ap (kind_in context.types) c.bytes.ensures in
    let own = subst (λ (k : Option FieldKind). KindRow k text c.in_ok-answer.answer) kind c.in_ok-answer.ensures in
    let row = subst (λ (f : ContextField). KindRow (kind_in context.types f.name) text c.in_ok-answer.answer) (sym c.of-field.ensures) own in
    record {
      texts = rw c.in_ok-keep.ensures.ok (strict_more context c.args.self.now.texts (field_meant c.of-field.result) c.in_ok-answer.answer text c.requires.readings.texts is row);
      dicts = c.requires.readings.dicts;
    }

pub returns-in-Some-clause-kept : goal.returns-in-Some-clause-kept
returns-in-Some-clause-kept c =
    after_each c.copied_text.result
    (has_kept c.args.self.now.texts (field_meant c.of-field.result) (field_of c.args.id.now) c.in-Some.answer.now (rw c.as_slice.ensures at c.in-Some.ensures.some) c.of-field.ensures)

pub returns-clause-kept : goal.returns-clause-kept
returns-clause-kept c =
    after_each c.copied_text-text.result
    (rw c.in_ok-keep.ensures.ok (has_new c.args.self.now.texts (field_meant c.of-field.result) (field_of c.args.id.now) c.in_ok-answer.answer c.of-field.ensures))

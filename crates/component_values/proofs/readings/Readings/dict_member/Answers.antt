use Rattle.std.proofs.Common.{ap, ◌∙◌}
use Rattle.msg_head.specs.Values.{joined_value}
use Rattle.component_values.specs.Context.{context_of}
use Rattle.component_values.specs.Readings.{field_of, text_at}
use Rattle.component_values.specs.tools.Rows.{field_meant}
use Rattle.component_values.proofs.FieldAnswers.{after_each, dict_kept, dict_more, has_kept, has_new}
use Rattle.component_values.proofs.readings.Readings.dict_member.Goals as goal

pub member_in-requires : goal.member_in-requires
member_in-requires c =
    let context = context_of c.args.context.now in
    let text = joined_value c.args.lines in
    let is = ap (text_at context) c.of-field.ensures ∙ c.requires.lines in
    (text, dict_kept context c.args.self.now.dicts (field_meant c.of-field.result) c.in-Some.answer.now text c.requires.readings.dicts (rw c.as_slice.ensures at c.in-Some.ensures.some) is)

pub returns-in-Some-clause-row : goal.returns-in-Some-clause-row
returns-in-Some-clause-row c =
    let context = context_of c.args.context.now in
    let text = joined_value c.args.lines in
    let is = ap (text_at context) c.of-field.ensures ∙ c.requires.lines in
    c.member_in.ensures text
    (dict_kept context c.args.self.now.dicts (field_meant c.of-field.result) c.in-Some.answer.now text c.requires.readings.dicts (rw c.as_slice.ensures at c.in-Some.ensures.some) is)

pub returns-clause-row : goal.returns-clause-row
returns-clause-row c = c.member_in-text.ensures (joined_value c.args.lines) c.in_ok-answer.ensures

pub returns-clause-readings : goal.returns-clause-readings
returns-clause-readings c =
    let context = context_of c.args.context.now in
    let is = ap (text_at context) c.of-field.ensures ∙ c.requires.lines in
    record {
      texts = c.requires.readings.texts;
      dicts = rw c.in_ok-keep.ensures.ok
          (dict_more context c.args.self.now.dicts (field_meant c.of-field.result) c.in_ok-answer.answer (joined_value c.args.lines) c.requires.readings.dicts is c.in_ok-answer.ensures);
    }

pub returns-in-Some-clause-kept : goal.returns-in-Some-clause-kept
returns-in-Some-clause-kept c =
    after_each c.member_in.result
    (has_kept c.args.self.now.dicts (field_meant c.of-field.result) (field_of c.args.id.now) c.in-Some.answer.now (rw c.as_slice.ensures at c.in-Some.ensures.some) c.of-field.ensures)

pub returns-clause-kept : goal.returns-clause-kept
returns-clause-kept c =
    after_each c.member_in-text.result
    (rw c.in_ok-keep.ensures.ok (has_new c.args.self.now.dicts (field_meant c.of-field.result) (field_of c.args.id.now) c.in_ok-answer.answer c.of-field.ensures))

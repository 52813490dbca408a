use Rattle.std.proofs.Common.{List, ◌++◌, ap, ◌∙◌, arith, map}
use Rattle.std.specs.List.{flat_map}
use Rattle.std.proofs.lemmas.List.{take_all}
use Rattle.msg_head.specs.Lines.{line_text}
use Rattle.list_texts.specs.declared.list.Field.{Field}
use Rattle.field_lists.specs.ToMessages.{line_of_field}
use Rattle.field_lists.proofs.into_message.append_lines.Goals as goal

pub returns : goal.returns
returns c =
    c.loop-field.invariant
    ∙ ap (λ (fields : List Field). c.args.text.now ++ flat_map line_text (map line_of_field fields)) (take_all c.loop-field.field-index c.args.fields.now (omega (arith, c.loop-field-test.false)))

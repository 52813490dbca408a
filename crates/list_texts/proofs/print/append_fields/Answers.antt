use Rattle.std.proofs.Common.{List, ◌++◌, ap, ◌∙◌, arith}
use Rattle.std.specs.List.{flat_map}
use Rattle.std.proofs.lemmas.List.{take_all}
use Rattle.list_texts.specs.declared.list.Field.{Field}
use Rattle.list_texts.specs.Lists.{field_text}
use Rattle.list_texts.proofs.print.append_fields.Goals as goal

pub returns : goal.returns
returns c =
    c.loop-field.invariant
    ∙ ap (λ (fields : List Field). c.args.text.now ++ flat_map (field_text c.args.word.now) fields) (take_all c.loop-field.field-index c.args.fields.now (omega (arith, c.loop-field-test.false)))

use Rattle.std.proofs.Common.{sym, ◌∙◌}
use Rattle.field_lists.specs.tools.Views.{control_of}
use Rattle.field_lists.proofs.Lengths.{bad_if, no_length, only_bad, two_lengths}
use Rattle.field_lists.proofs.parts.Parts.is_length_bad.Goals as goal

pub returns-in_default-clause-no : goal.returns-in_default-clause-no
returns-in_default-clause-no c =
    let parts = c.args.self.now in
    λ bad. absurd (no_length (control_of parts.control) parts.list.now parts.others.now c.in_default.ensures.none bad)

pub returns-then-has_field-clause-yes : goal.returns-then-has_field-clause-yes
returns-then-has_field-clause-yes c =
    let parts = c.args.self.now in
    λ _. two_lengths (control_of parts.control) parts.list.now parts.others.now c.in-Some.after.now c.in-Some.field.now c.in-Some.ensures.some (sym c.has_field.ensures ∙ c.if-has_field.true)

pub returns-clause-yes : goal.returns-clause-yes
returns-clause-yes c =
    let parts = c.args.self.now in
    bad_if (control_of parts.control) parts.list.now parts.others.now c.in-Some.after.now c.in-Some.field.now c.in-Some.ensures.some (sym c.has_field.ensures ∙ c.if-has_field.false)
    c.bytes-raw.result.now c.in_ok-text.text c.bytes-value.result.now c.bytes-raw.ensures c.in_ok-text.ensures c.bytes-value.ensures c.is_wrong_length.result c.is_wrong_length.ensures

pub returns-clause-no : goal.returns-clause-no
returns-clause-no c =
    let parts = c.args.self.now in
    only_bad (control_of parts.control) parts.list.now parts.others.now c.in-Some.after.now c.in-Some.field.now c.in-Some.ensures.some (sym c.has_field.ensures ∙ c.if-has_field.false)
    c.bytes-raw.result.now c.in_ok-text.text c.bytes-value.result.now c.bytes-raw.ensures c.in_ok-text.ensures c.bytes-value.ensures c.is_wrong_length.result c.is_wrong_length.ensures

use Rattle.std.proofs.Common.{List, length, ap, arith, sym, ◌∙◌}
use Rattle.list_texts.specs.declared.list.Field.{Field}
use Rattle.field_lists.specs.tools.Views.{control_of}
use Rattle.field_lists.proofs.PartAnswers.{first_field, first_trailer, no_first, others_fewer}
use Rattle.field_lists.proofs.parts.Parts.first_bad.Goals as goal

pub overflow_sub-pseudo : goal.overflow_sub-pseudo
overflow_sub-pseudo c =
    let parts = c.args.self.now in
    omega (arith, others_fewer parts.list.now (control_of parts.control) parts.others.now c.requires, ap (λ (fs : List Field). length fs) c.as_slice-fields.ensures)

pub returns-in-Some-clause-some : goal.returns-in-Some-clause-some
returns-in-Some-clause-some c =
    let parts = c.args.self.now in
    first_field parts.list.now c.as_slice-fields.result.now (control_of parts.control) parts.others.now c.in-Some.index c.as_slice-fields.ensures c.requires (sym c.first_bad.ensures ∙ c.in-Some.is)

pub returns-in_err-index-clause-none : goal.returns-in_err-index-clause-none
returns-in_err-index-clause-none c =
    let parts = c.args.self.now in
    rw c.from_residual.ensures (no_first parts.list.now parts.others.now c.as_slice.result.now c.as_slice.ensures (sym c.first_bad.ensures ∙ c.in_default.is) (sym c.in_err-index.ensures))

pub returns-clause-some : goal.returns-clause-some
returns-clause-some c =
    let parts = c.args.self.now in
    first_trailer parts.list.now c.as_slice-fields.result.now parts.others.now c.as_slice.result.now c.in_ok-index.index c.as_slice-fields.ensures c.as_slice.ensures (sym c.first_bad.ensures ∙ c.in_default.is) (sym c.in_ok-index.ensures)

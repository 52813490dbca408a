use Rattle.field_lists.proofs.NamedFields.{no_value, value_of_first}
use Rattle.field_lists.proofs.control.value_of.Goals as goal

pub returns-in_err-field-clause-none : goal.returns-in_err-field-clause-none
returns-in_err-field-clause-none c = rw c.from_residual.ensures (no_value c.args.name.now c.args.fields.now c.in_err-field.ensures.none)

pub returns-clause-some : goal.returns-clause-some
returns-clause-some c = rw c.bytes.ensures (value_of_first c.args.name.now c.args.fields.now c.in_ok-field.field.now _ c.in_ok-field.ensures.some)

use Rattle.component_values.specs.Context.{context_of}
use Rattle.field_lists.proofs.FromParts.{list_handed}
use Rattle.field_lists.proofs.into_list.list_of.Goals as goal

pub returns-in_err-fields : goal.returns-in_err-fields
returns-in_err-fields c = list_handed (context_of c.args.context.now) c.from_residual.result c.in_err-fields.field-0.0 c.from_residual.ensures.1 c.in_err-fields.ensures

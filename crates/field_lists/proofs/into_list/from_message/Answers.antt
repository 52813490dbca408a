use Rattle.component_values.specs.Context.{context_of}
use Rattle.field_lists.proofs.FromLaws.{only_list, fault_is}
use Rattle.field_lists.proofs.into_list.from_message.Goals as goal

pub returns-clause-only : goal.returns-clause-only
returns-clause-only c = only_list (context_of c.args.context.now) c.list_of.result c.list_of.ensures

pub returns-clause-fault : goal.returns-clause-fault
returns-clause-fault c = fault_is (context_of c.args.context.now) c.list_of.result c.list_of.ensures

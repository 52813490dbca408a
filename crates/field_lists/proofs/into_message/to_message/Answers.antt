use Rattle.field_lists.proofs.ToAnswers.{fault_answers, ok_message, only_message}
use Rattle.field_lists.proofs.into_message.to_message.Goals as goal

pub returns-clause-ok : goal.returns-clause-ok
returns-clause-ok c = ok_message c.args.list.now c.args.scheme c.turn.result c.turn.ensures

pub returns-clause-only : goal.returns-clause-only
returns-clause-only c = only_message c.args.list.now c.args.scheme c.turn.result c.turn.ensures

pub returns-clause-fault : goal.returns-clause-fault
returns-clause-fault c = fault_answers c.args.list.now c.args.scheme c.turn.result c.turn.ensures

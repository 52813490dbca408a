use Rattle.field_lists.proofs.ControlAnswers.{if_none}
use Rattle.field_lists.proofs.ControlOrNone.{neither_begins}
use Rattle.field_lists.proofs.control.split_control.Goals as goal

pub returns-clause-none : goal.returns-clause-none
returns-clause-none c = if_none c.request_control.result (neither_begins c.args.fields.now c.in_default.ensures.none) c.request_control.ensures.none

use Rattle.field_lists.proofs.ControlAnswers.{no_fragment}
use Rattle.field_lists.proofs.control.has_no_fragment.Goals as goal

pub returns-then-allows_all : goal.returns-then-allows_all
returns-then-allows_all c = no_fragment c.args.text.now c.contains.result c.if-allows_all.ensures c.contains.ensures.value

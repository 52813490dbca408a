use Rattle.field_lists.proofs.ControlAnswers.{no_four}
use Rattle.field_lists.proofs.control.request_control.Goals as goal

pub returns-in_err-control-clause-none : goal.returns-in_err-control-clause-none
returns-in_err-control-clause-none c =
    rw c.from_residual.ensures (no_four c.args.fields.now c.split_at.result.0.now c.split_at.ensures.front c.in_err-control.ensures.none)

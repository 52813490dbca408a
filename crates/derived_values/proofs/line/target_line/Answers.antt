use Rattle.std.proofs.Common.{ap}
use Rattle.msg_head.specs.Views.{start_line_of}
use Rattle.derived_values.proofs.StartTargets.{not_spelled}
use Rattle.derived_values.proofs.line.target_line.Goals as goal

pub returns-in_err-parts-clause-none : goal.returns-in_err-parts-clause-none
returns-in_err-parts-clause-none c =
    rw c.from_residual.ensures (not_spelled (start_line_of c.args.start) (record { method = c.in-Request.method.now; target = c.in-Request.target.now; version = c.in-Request.version.now }) (ap start_line_of c.in-Request.is)
    c.in_err-parts.ensures.none)

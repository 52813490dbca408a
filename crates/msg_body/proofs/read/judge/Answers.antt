use Rattle.std.proofs.Common.{refl}
use Rattle.msg_body.specs.Errors.{error_of}
use Rattle.msg_body.proofs.Readings.{explained, head_fault}
use Rattle.msg_body.proofs.read.judge.Goals as goal

pub returns-in_err-head-clause-explains : goal.returns-in_err-head-clause-explains
returns-in_err-head-clause-explains c =
    explained c.args.expect c.args.to_head c.args.bytes.now c.from_residual.result (error_of c.in_err-head.field-0.0) c.from_residual.ensures.1
    (head_fault c.args.expect c.args.to_head c.args.bytes.now c.in_err-head.field-0.0 (λ own. (c.in_err-head.ensures.fault c.in_err-head.field-0.0 own).only refl))

use Rattle.whole_rewrites.proofs.TargetPermitTests.{if_none}
use Rattle.whole_rewrites.proofs.permit_target.request_query.Goals as goal

pub returns-in_err-target-clause-none : goal.returns-in_err-target-clause-none
returns-in_err-target-clause-none c = if_none c.from_residual.result (λ query of. c.in_err-target.ensures.none of.0 of.1 of.2)

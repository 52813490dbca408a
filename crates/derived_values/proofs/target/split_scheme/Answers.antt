use Rattle.derived_values.proofs.Given.{given_none}
use Rattle.derived_values.proofs.TargetParts.{no_scheme}
use Rattle.derived_values.proofs.target.split_scheme.Goals as goal

pub returns-in_err-rest-clause-none : goal.returns-in_err-rest-clause-none
returns-in_err-rest-clause-none c = given_none c.from_residual.result
    (no_scheme _ _ _ c.in-Ok.ensures.joined c.in-Ok.ensures.word c.in-Ok.ensures.ends c.in_err-rest.ensures.none)

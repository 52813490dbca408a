use Rattle.derived_values.proofs.Given.{given_none}
use Rattle.derived_values.proofs.TargetParts.{no_query}
use Rattle.derived_values.proofs.target.split_path.Goals as goal

pub returns-in_err-query-clause-none : goal.returns-in_err-query-clause-none
returns-in_err-query-clause-none c = given_none c.from_residual.result
    (no_query _ _ _ c.read_all.ensures.joined c.read_all.ensures.all c.read_all.ensures.ends c.in_err-query.ensures.none)

use Rattle.derived_values.proofs.Given.{given_none}
use Rattle.derived_values.proofs.TargetParts.{no_path_no_absolute}
use Rattle.derived_values.proofs.target.cut_absolute.Goals as goal

pub returns-in_err-path-clause-none : goal.returns-in_err-path-clause-none
returns-in_err-path-clause-none c = given_none c.from_residual-in_err-path.result
    (no_path_no_absolute _ _ _ _ _ c.in_ok-scheme.ensures.some c.read_all.ensures.joined c.read_all.ensures.all c.read_all.ensures.ends c.in_err-path.ensures.none)

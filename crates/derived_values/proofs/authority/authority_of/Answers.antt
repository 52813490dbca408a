use Rattle.derived_values.proofs.Given.{given_none}
use Rattle.derived_values.proofs.AuthorityParts.{no_port}
use Rattle.derived_values.proofs.authority.authority_of.Goals as goal

pub returns-in_err-port-clause-none : goal.returns-in_err-port-clause-none
returns-in_err-port-clause-none c = given_none c.from_residual-in_err-port.result (no_port _ _ _ c.in_ok-host.ensures.some c.in_err-port.ensures.none)

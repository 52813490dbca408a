use Rattle.derived_values.proofs.TargetParts.{one_target}
use Rattle.derived_values.proofs.AuthorityParts.{one_authority, one_authority_value}
use Rattle.derived_values.proofs.Schemes.{scheme_in_any_case}
use Rattle.derived_values.proofs.target_laws.a_target_has_one_reading.Goals as goal

pub returns-clause-target : goal.returns-clause-target
returns-clause-target c = one_target

pub returns-clause-authority : goal.returns-clause-authority
returns-clause-authority c = one_authority

pub returns-clause-value : goal.returns-clause-value
returns-clause-value c = one_authority_value

pub returns-clause-scheme : goal.returns-clause-scheme
returns-clause-scheme c = scheme_in_any_case

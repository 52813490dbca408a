use Rattle.derived_values.proofs.Decided.{target_is_decided, authority_is_decided}
use Rattle.derived_values.proofs.target_laws.targets_are_decided.Goals as goal

pub returns-clause-target : goal.returns-clause-target
returns-clause-target c = target_is_decided

pub returns-clause-authority : goal.returns-clause-authority
returns-clause-authority c = authority_is_decided

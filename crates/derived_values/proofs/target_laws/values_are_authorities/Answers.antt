use Rattle.derived_values.proofs.AuthorityValues.{has_itself_for_value, has_parts_in_value, is_authority_in_target}
use Rattle.derived_values.proofs.target_laws.values_are_authorities.Goals as goal

pub returns-clause-itself : goal.returns-clause-itself
returns-clause-itself c = has_itself_for_value

pub returns-clause-in_target : goal.returns-clause-in_target
returns-clause-in_target c = is_authority_in_target

pub returns-clause-parts : goal.returns-clause-parts
returns-clause-parts c = has_parts_in_value

use Rattle.derived_values.proofs.Visible.{has_visible_parts, has_visible_text, has_visible_value}
use Rattle.derived_values.proofs.target_laws.values_are_visible.Goals as goal

pub returns-clause-parts : goal.returns-clause-parts
returns-clause-parts c = has_visible_parts

pub returns-clause-value : goal.returns-clause-value
returns-clause-value c = has_visible_value

pub returns-clause-text : goal.returns-clause-text
returns-clause-text c = has_visible_text

use Rattle.derived_values.proofs.SameParts.{depends_on_parts}
use Rattle.derived_values.proofs.laws.components_depend_on_their_parts.Goals as goal

pub returns : goal.returns
returns c = depends_on_parts

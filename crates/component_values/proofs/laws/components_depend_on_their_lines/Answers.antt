use Rattle.component_values.proofs.LineLaws.{depends_on_its_lines}
use Rattle.component_values.proofs.laws.components_depend_on_their_lines.Goals as goal

pub returns : goal.returns
returns c = depends_on_its_lines

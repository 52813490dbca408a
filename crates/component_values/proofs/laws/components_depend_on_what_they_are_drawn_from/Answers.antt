use Rattle.component_values.proofs.LineLaws.{depends_on_its_row, depends_on_kind, depends_on_own_lines}
use Rattle.component_values.proofs.laws.components_depend_on_what_they_are_drawn_from.Goals as goal

pub returns : goal.returns
returns c = record { related = depends_on_kind; field = depends_on_own_lines; derived = depends_on_its_row }

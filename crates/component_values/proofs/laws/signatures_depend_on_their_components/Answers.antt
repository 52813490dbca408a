use Rattle.component_values.proofs.SameLists.{have_same_list, have_same_first_lack}
use Rattle.component_values.proofs.laws.signatures_depend_on_their_components.Goals as goal

pub returns : goal.returns
returns c = record { values = have_same_list; lack = have_same_first_lack }

use Rattle.component_ids.proofs.SameLaws.{same_decides}
use Rattle.component_ids.proofs.laws.sameness_is_tested.Goals as goal

pub returns : goal.returns
returns c = same_decides

use Rattle.field_lists.proofs.BackLaws.{turns_back}
use Rattle.field_lists.proofs.laws.a_list_comes_back.Goals as goal

pub returns : goal.returns
returns c = turns_back

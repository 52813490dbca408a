use Rattle.component_values.proofs.FirstLacks.{have_or_lack, have_one_list, first_lack_is_one, none_lacks}
use Rattle.component_values.proofs.laws.signatures_have_one_answer.Goals as goal

pub returns : goal.returns
returns c = record { some = have_or_lack; values = have_one_list; lack = first_lack_is_one; either = none_lacks }

use Rattle.settings.proofs.ChosenLaws.{chosen_by_no_other, for_its_tag_alone, none_without_default}
use Rattle.settings.proofs.laws.nothing_else_is_chosen.Goals as goal

pub returns : goal.returns
returns c = record { chosen = chosen_by_no_other; alone = for_its_tag_alone; none = none_without_default }

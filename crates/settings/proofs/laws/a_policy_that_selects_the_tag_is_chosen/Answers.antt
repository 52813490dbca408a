use Rattle.settings.proofs.ChosenLaws.{chosen_by_tag, default_without_tag}
use Rattle.settings.proofs.laws.a_policy_that_selects_the_tag_is_chosen.Goals as goal

pub returns : goal.returns
returns c = record { tag = chosen_by_tag; default = default_without_tag }

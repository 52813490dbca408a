use Rattle.program.proofs.TurnedTexts.{list_longer}
use Rattle.program.proofs.over_text.ListsWordsOverText.limit.Goals as goal

pub returns-clause-longer : goal.returns-clause-longer
returns-clause-longer c = list_longer

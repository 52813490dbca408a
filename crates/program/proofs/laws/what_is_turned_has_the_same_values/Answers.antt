use Rattle.program.proofs.TurnedTexts.{same_where_turned}
use Rattle.program.proofs.laws.what_is_turned_has_the_same_values.Goals as goal

pub returns : goal.returns
returns c = same_where_turned

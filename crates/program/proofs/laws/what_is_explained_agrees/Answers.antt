use Rattle.program.proofs.Meanings.{has_explanation}
use Rattle.program.proofs.laws.what_is_explained_agrees.Goals as goal

pub returns : goal.returns
returns c = has_explanation

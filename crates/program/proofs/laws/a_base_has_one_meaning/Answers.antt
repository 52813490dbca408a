use Rattle.program.proofs.Meanings.{has_one_base}
use Rattle.program.proofs.laws.a_base_has_one_meaning.Goals as goal

pub returns : goal.returns
returns c = has_one_base

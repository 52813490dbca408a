use Rattle.program.proofs.Meanings.{has_one_chain}
use Rattle.program.proofs.laws.what_is_kept_has_one_base.Goals as goal

pub returns : goal.returns
returns c = has_one_chain

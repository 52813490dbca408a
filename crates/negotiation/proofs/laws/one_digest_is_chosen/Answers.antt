use Rattle.negotiation.proofs.Wishing.{one_chosen}
use Rattle.negotiation.proofs.laws.one_digest_is_chosen.Goals as goal

pub returns : goal.returns
returns c = one_chosen

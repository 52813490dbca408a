use Rattle.negotiation.proofs.ChosenDigests.{chosen_digest}
use Rattle.negotiation.proofs.laws.a_response_has_the_chosen_digest.Goals as goal

pub returns : goal.returns
returns c = chosen_digest

use Rattle.commands.proofs.Negotiating.{one_negotiation, some_negotiation}
use Rattle.commands.proofs.laws.negotiating_has_one_outcome.Goals as goal

pub returns : goal.returns
returns c = record { one = one_negotiation; some = some_negotiation }

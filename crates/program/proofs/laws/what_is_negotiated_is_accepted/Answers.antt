use Rattle.program.proofs.NegotiatedInputs.{accepted_where_negotiated, has_negotiated}
use Rattle.program.proofs.laws.what_is_negotiated_is_accepted.Goals as goal

pub returns : goal.returns
returns c = record { negotiated = has_negotiated; accepted = accepted_where_negotiated }

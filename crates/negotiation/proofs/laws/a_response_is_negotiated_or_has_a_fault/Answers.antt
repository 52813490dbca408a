use Rattle.negotiation.proofs.Negotiating.{negotiated_or_fault, one_negotiate_fault, one_negotiated}
use Rattle.negotiation.proofs.WishedSignatures.{message_where_negotiated}
use Rattle.negotiation.proofs.laws.a_response_is_negotiated_or_has_a_fault.Goals as goal

pub returns : goal.returns
returns c = record { one = one_negotiated; one_fault = one_negotiate_fault; either = negotiated_or_fault; message = message_where_negotiated }

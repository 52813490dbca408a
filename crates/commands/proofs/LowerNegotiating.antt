-- Laws of responses that are signed as their requests ask, in the form that the proofs here use.
use Rattle.negotiation.proofs.Negotiating as negotiate
use Rattle.negotiation.specs.Laws.{HasOneNegotiated, HasOneNegotiateFault, HasNegotiatedOrFault}

pub one_negotiated : HasOneNegotiated
one_negotiated = negotiate.one_negotiated

pub one_negotiate_fault : HasOneNegotiateFault
one_negotiate_fault = negotiate.one_negotiate_fault

pub negotiated_or_fault : HasNegotiatedOrFault
negotiated_or_fault = negotiate.negotiated_or_fault

use Rattle.negotiation.proofs.WishedSignatures.{each_wished, kept_signatures}
use Rattle.negotiation.proofs.laws.a_response_has_the_wished_signatures.Goals as goal

pub returns : goal.returns
returns c = record { wished = each_wished; kept = kept_signatures }

use Rattle.signing.proofs.OneSigned.{one_signed_message, one_sign_fault}
use Rattle.signing.proofs.SomeSigned.{signed_or_fault, verifiable_where_signed}
use Rattle.signing.proofs.laws.a_message_is_signed_or_has_a_fault.Goals as goal

pub returns : goal.returns
returns c = record { one = one_signed_message; one_fault = one_sign_fault; either = signed_or_fault; verifiable = verifiable_where_signed }

use Rattle.negotiation.proofs.Chains.{each_or_fault, message_where_each, one_each_fault, one_signed_each}
use Rattle.negotiation.proofs.laws.a_message_has_each_signature_or_a_fault.Goals as goal

pub returns : goal.returns
returns c = record { one = one_signed_each; one_fault = one_each_fault; either = each_or_fault; message = message_where_each }

use Rattle.gateway.proofs.PassedLaws.{kept_where_passed, own_label_is_right}
use Rattle.gateway.proofs.laws.a_passed_message_keeps_its_signature.Goals as goal

pub returns : goal.returns
returns c = record { kept = kept_where_passed; own = own_label_is_right }

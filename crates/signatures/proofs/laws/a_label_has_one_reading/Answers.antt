use Rattle.signatures.proofs.InRange.{is_signature_in_range}
use Rattle.signatures.proofs.Reading.{has_signature_or_not, has_one_signature, is_unread_by_one_rule, has_no_failure_where_read, is_unread_by_rules_to_12}
use Rattle.signatures.proofs.laws.a_label_has_one_reading.Goals as goal

pub returns : goal.returns
returns c = record {
  some = has_signature_or_not;
  signature = has_one_signature;
  rule = is_unread_by_one_rule;
  either = has_no_failure_where_read;
  to_12 = is_unread_by_rules_to_12;
  in_range = is_signature_in_range;
}

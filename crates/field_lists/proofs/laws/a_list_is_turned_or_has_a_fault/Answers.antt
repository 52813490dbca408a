use Rattle.field_lists.proofs.ToLaws.{has_message_or_fault, one_message, one_to_fault}
use Rattle.field_lists.proofs.WholeMessages.{is_whole_message}
use Rattle.field_lists.proofs.laws.a_list_is_turned_or_has_a_fault.Goals as goal

pub returns : goal.returns
returns c = record {
  some = has_message_or_fault;
  one = one_message;
  fault = one_to_fault;
  whole = is_whole_message;
}

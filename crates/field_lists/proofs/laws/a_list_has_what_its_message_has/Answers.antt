use Rattle.field_lists.proofs.FromLaws.{has_list_or_from_fault, one_list_of_message, one_from_fault, no_from_fault}
use Rattle.field_lists.proofs.ListRows.{list_has_the_same}
use Rattle.field_lists.proofs.laws.a_list_has_what_its_message_has.Goals as goal

pub returns : goal.returns
returns c = record {
  some = has_list_or_from_fault;
  one = one_list_of_message;
  fault = one_from_fault;
  either = no_from_fault;
  same = list_has_the_same;
}

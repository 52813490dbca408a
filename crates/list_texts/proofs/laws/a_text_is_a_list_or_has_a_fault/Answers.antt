use Rattle.list_texts.proofs.TextLaws.{has_list_or_fault, one_list, one_text, one_fields_fault, no_fault_of_list}
use Rattle.list_texts.proofs.laws.a_text_is_a_list_or_has_a_fault.Goals as goal

pub returns : goal.returns
returns c = record {
  some = has_list_or_fault;
  list = one_list;
  text = one_text;
  fault = one_fields_fault;
  either = no_fault_of_list;
}

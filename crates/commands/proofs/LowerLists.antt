-- Laws of lists of fields, in the form that the proofs here use.
use Rattle.list_texts.specs.Laws.{HasListOrFault, OneList, OneFieldsFault, NoFaultOfList}
use Rattle.list_texts.proofs.TextLaws as texts
use Rattle.field_lists.specs.Laws.{HasMessageOrFault, OneMessage, OneToFault, HasListOrFromFault, OneListOfMessage, OneFromFault, NoFromFaultOfList}
use Rattle.field_lists.proofs.ToLaws as to
use Rattle.field_lists.proofs.FromLaws as from

pub list_or_fault : HasListOrFault
list_or_fault = texts.has_list_or_fault

pub one_list : OneList
one_list = texts.one_list

pub one_fields_fault : OneFieldsFault
one_fields_fault = texts.one_fields_fault

pub no_fault_of_list : NoFaultOfList
no_fault_of_list = texts.no_fault_of_list

pub message_or_fault : HasMessageOrFault
message_or_fault = to.has_message_or_fault

pub one_message : OneMessage
one_message = to.one_message

pub one_to_fault : OneToFault
one_to_fault = to.one_to_fault

pub list_or_from_fault : HasListOrFromFault
list_or_from_fault = from.has_list_or_from_fault

pub one_list_of_message : OneListOfMessage
one_list_of_message = from.one_list_of_message

pub one_from_fault : OneFromFault
one_from_fault = from.one_from_fault

pub no_from_fault : NoFromFaultOfList
no_from_fault = from.no_from_fault

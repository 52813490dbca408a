use Rattle.field_lists.proofs.MessageRows.{message_has_the_same}
use Rattle.field_lists.proofs.laws.a_message_has_what_its_list_has.Goals as goal

pub returns : goal.returns
returns c = message_has_the_same

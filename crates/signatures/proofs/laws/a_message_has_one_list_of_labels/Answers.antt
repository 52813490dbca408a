use Rattle.signatures.proofs.Reading.{has_labels, has_one_list_of_labels}
use Rattle.signatures.proofs.laws.a_message_has_one_list_of_labels.Goals as goal

pub returns : goal.returns
returns c = record { some = has_labels; one = has_one_list_of_labels }

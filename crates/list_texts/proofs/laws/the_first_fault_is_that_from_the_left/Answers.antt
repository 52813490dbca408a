use Rattle.list_texts.proofs.LeftLaws.{form_fault_is_after}
use Rattle.list_texts.proofs.laws.the_first_fault_is_that_from_the_left.Goals as goal

pub returns : goal.returns
returns c = form_fault_is_after

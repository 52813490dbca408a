use Rattle.signing.proofs.OneSigned.{one_list_of_specs, one_want_fault}
use Rattle.signing.proofs.SomeSigned.{specs_or_fault, valid_where_wished}
use Rattle.signing.proofs.laws.wishes_are_met_or_have_a_fault.Goals as goal

pub returns : goal.returns
returns c = record { one = one_list_of_specs; one_fault = one_want_fault; either = specs_or_fault; valid = valid_where_wished }

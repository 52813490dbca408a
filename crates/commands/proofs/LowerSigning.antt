-- Laws of what is signed, in the form that the proofs here use.
use Rattle.signing.proofs.OneSigned as one
use Rattle.signing.proofs.SomeSigned as some
use Rattle.signing.specs.Laws.{HasOneSignedMessage, HasOneSignFault, HasSignedMessageOrFault, HasOneSpec, HasSpec, HasOneListOfSpecs, HasOneWantFault, HasSpecsOrFault}

pub one_signed_message : HasOneSignedMessage
one_signed_message = one.one_signed_message

pub one_sign_fault : HasOneSignFault
one_sign_fault = one.one_sign_fault

pub signed_or_fault : HasSignedMessageOrFault
signed_or_fault = some.signed_or_fault

pub one_spec : HasOneSpec
one_spec = one.one_spec

pub has_spec : HasSpec
has_spec = some.has_spec

pub one_list_of_specs : HasOneListOfSpecs
one_list_of_specs = one.one_list_of_specs

pub one_want_fault : HasOneWantFault
one_want_fault = one.one_want_fault

pub specs_or_fault : HasSpecsOrFault
specs_or_fault = some.specs_or_fault

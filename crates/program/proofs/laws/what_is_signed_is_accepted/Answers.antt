use Rattle.program.proofs.SignedInputs.{accepted_where_signed, has_signed}
use Rattle.program.proofs.laws.what_is_signed_is_accepted.Goals as goal

pub returns : goal.returns
returns c = record { signed = has_signed; accepted = accepted_where_signed }

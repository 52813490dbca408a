use Rattle.signing.proofs.OneSigned.{one_spec}
use Rattle.signing.proofs.SomeSigned.{has_spec, valid_where_asked}
use Rattle.signing.proofs.laws.a_configuration_asks_for_one_signature.Goals as goal

pub returns : goal.returns
returns c = record { one = one_spec; some = has_spec; valid = valid_where_asked }

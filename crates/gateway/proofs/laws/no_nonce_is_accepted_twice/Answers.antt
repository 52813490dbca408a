use Rattle.gateway.proofs.Nonces.{is_no_nonce_twice}
use Rattle.gateway.proofs.laws.no_nonce_is_accepted_twice.Goals as goal

pub returns : goal.returns
returns c = is_no_nonce_twice

use Rattle.commands.proofs.OneSigning.{has_some_signing, one_signing}
use Rattle.commands.proofs.laws.signing_has_one_outcome.Goals as goal

pub returns : goal.returns
returns c = record { one = one_signing; some = has_some_signing }

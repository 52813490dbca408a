use Rattle.signatures.proofs.Readings.{one_reading}
use Rattle.signatures.proofs.base_laws.a_base_has_one_reading.Goals as goal

pub returns : goal.returns
returns c = one_reading

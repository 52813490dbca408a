use Rattle.hop_audit.proofs.Fates.{has_one_fate, has_some_fate}
use Rattle.hop_audit.proofs.laws.a_signature_has_one_fate.Goals as goal

pub returns-clause-one : goal.returns-clause-one
returns-clause-one c = has_one_fate

pub returns-clause-some : goal.returns-clause-some
returns-clause-some c = has_some_fate

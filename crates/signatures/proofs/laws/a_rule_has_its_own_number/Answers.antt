use Rattle.signatures.proofs.Numbers.{has_its_own_number, has_number}
use Rattle.signatures.proofs.laws.a_rule_has_its_own_number.Goals as goal

pub returns : goal.returns
returns c = record { own = has_its_own_number; number = has_number }

use Rattle.verdicts.proofs.RightlySigned.{holds_rules_of_signing, is_accepted_by_other_rules}
use Rattle.verdicts.proofs.laws.a_signed_label_is_accepted_by_the_other_rules.Goals as goal

pub returns : goal.returns
returns c = record { holds = holds_rules_of_signing; accepted = is_accepted_by_other_rules }

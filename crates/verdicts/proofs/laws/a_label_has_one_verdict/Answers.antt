use Rattle.verdicts.proofs.Judging.{has_verdict, has_one_verdict, is_accepted_where_no_rule_fails}
use Rattle.verdicts.proofs.laws.a_label_has_one_verdict.Goals as goal

pub returns : goal.returns
returns c = record { some = has_verdict; one = has_one_verdict; accepted = is_accepted_where_no_rule_fails }

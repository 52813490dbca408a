use Rattle.verdicts.proofs.WithoutPolicy.{fails_by_its_tag, has_verdict_of_its_tag, holds_other_rules_of_policies}
use Rattle.verdicts.proofs.laws.a_label_without_a_policy_fails_by_its_tag.Goals as goal

pub returns : goal.returns
returns c = record { fails = fails_by_its_tag; others = holds_other_rules_of_policies; verdict = has_verdict_of_its_tag }

use Rattle.settings.specs.Standard.{standard_policy}
use Rattle.settings.proofs.StandardLaws.{added_alone, standard_valid}
use Rattle.settings.proofs.conf.Conf.standard.Goals as goal

pub new-requires-2 : goal.new-requires-2
new-requires-2 c =
    standard_valid c.new.result c.in_ok-types.types c.push.new.self c.new.ensures
    (added_alone c.new-policies.result c.push.new.self c.standard-2.result standard_policy c.new-policies.ensures c.standard-2.ensures c.in_ok-push.ensures.ok)

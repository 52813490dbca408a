use Rattle.std.specs.Prelude.{option_copied}
use Rattle.std.specs.List.{Contains}
use Rattle.std.proofs.lemmas.List.Elements.{All-contains_itself}
use Rattle.settings.specs.ConfMeaning.{meaning}
use Rattle.settings.specs.ValidSections.{IsValidPolicy}
use Rattle.settings.proofs.ChosenLaws.{lent_has}
use Rattle.settings.proofs.ValidInside.{valid_inside}
use Rattle.settings.proofs.conf.Conf.policy_for.Goals as goal

pub returns-clause-valid : goal.returns-clause-valid
returns-clause-valid c =
    let conf = meaning c.args.self.now in
    lent_has IsValidPolicy conf.policies c.as_slice.result.now (option_copied c.args.tag) c.policy_for.result c.policy_for.ensures c.as_slice.ensures
    (valid_inside conf c.args.self.now.valid).policies.each

pub returns-clause-one : goal.returns-clause-one
returns-clause-one c =
    let conf = meaning c.args.self.now in
    lent_has (Contains conf.policies) conf.policies c.as_slice.result.now (option_copied c.args.tag) c.policy_for.result c.policy_for.ensures c.as_slice.ensures
    (All-contains_itself conf.policies)

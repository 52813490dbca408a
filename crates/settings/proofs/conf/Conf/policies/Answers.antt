use Rattle.settings.specs.ConfMeaning.{meaning}
use Rattle.settings.proofs.ValidInside.{valid_inside}
use Rattle.settings.proofs.conf.Conf.policies.Goals as goal

pub returns-clause-valid : goal.returns-clause-valid
returns-clause-valid c = (valid_inside (meaning c.args.self.now) c.args.self.now.valid).policies

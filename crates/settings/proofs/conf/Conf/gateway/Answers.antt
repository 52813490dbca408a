use Rattle.settings.specs.ConfMeaning.{meaning}
use Rattle.settings.specs.ValidSections.{IsValidGateway}
use Rattle.settings.proofs.ValidInside.{lent_is, valid_inside}
use Rattle.settings.proofs.conf.Conf.gateway.Goals as goal

pub returns-clause-valid : goal.returns-clause-valid
returns-clause-valid c =
    lent_is IsValidGateway c.as_ref.result c.args.self.now.gateway c.as_ref.ensures.value (valid_inside (meaning c.args.self.now) c.args.self.now.valid).gateway

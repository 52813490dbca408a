use Rattle.settings.specs.ConfMeaning.{meaning}
use Rattle.settings.proofs.ValidInside.{valid_inside}
use Rattle.settings.proofs.conf.Conf.nonces.Goals as goal

pub returns-clause-least : goal.returns-clause-least
returns-clause-least c = (valid_inside (meaning c.args.self.now) c.args.self.now.valid).least_nonces

pub returns-clause-most : goal.returns-clause-most
returns-clause-most c = (valid_inside (meaning c.args.self.now) c.args.self.now.valid).most_nonces

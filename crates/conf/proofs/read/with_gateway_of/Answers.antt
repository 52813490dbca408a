use Rattle.std.proofs.Common.{sym, ◌∙◌}
use Rattle.settings.specs.ConfMeaning.{meaning}
use Rattle.conf.proofs.ConfLaws.{gateway_kept}
use Rattle.conf.proofs.read.with_gateway_of.Goals as goal

pub returns-in-None : goal.returns-in-None
returns-in-None c = gateway_kept (meaning c.args.conf) c.args.gateway (c.requires.none ∙ sym c.in-None.is)

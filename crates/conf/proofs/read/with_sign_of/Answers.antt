use Rattle.std.proofs.Common.{sym, ◌∙◌}
use Rattle.settings.specs.ConfMeaning.{meaning}
use Rattle.conf.proofs.ConfLaws.{sign_kept}
use Rattle.conf.proofs.read.with_sign_of.Goals as goal

pub returns-in-None : goal.returns-in-None
returns-in-None c = sign_kept (meaning c.args.conf) c.args.sign (c.requires.none ∙ sym c.in-None.is)

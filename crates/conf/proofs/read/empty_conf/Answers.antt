use Rattle.std.proofs.lemmas.Result.{IfOk-weaker}
use Rattle.settings.specs.ConfMeaning.{meaning}
use Rattle.conf.proofs.EmptyLaws.{empty_configures}
use Rattle.conf.proofs.read.empty_conf.Goals as goal

pub returns : goal.returns
returns c = IfOk-weaker c.standard.result _ _ (λ conf is. empty_configures (meaning conf) is) c.standard.ensures

use Rattle.verdicts.proofs.Windows.{covers_each_policy}
use Rattle.verdicts.proofs.laws.the_window_covers_each_policy.Goals as goal

pub returns : goal.returns
returns c = covers_each_policy

use Rattle.commands.proofs.Auditing.{one_auditing, some_auditing}
use Rattle.commands.proofs.laws.auditing_has_one_outcome.Goals as goal

pub returns : goal.returns
returns c = record { one = one_auditing; some = some_auditing }

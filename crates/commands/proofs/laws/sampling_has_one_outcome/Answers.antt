use Rattle.commands.proofs.Sampled.{one_sampling, some_sampling}
use Rattle.commands.proofs.laws.sampling_has_one_outcome.Goals as goal

pub returns : goal.returns
returns c = record { one = one_sampling; some = some_sampling }

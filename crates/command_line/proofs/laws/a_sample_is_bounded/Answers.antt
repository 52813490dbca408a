use Rattle.command_line.proofs.CommandWords.{sample_bounded}
use Rattle.command_line.proofs.laws.a_sample_is_bounded.Goals as goal

pub returns : goal.returns
returns c = sample_bounded

use Rattle.program.proofs.SomeReport.{complete_law}
use Rattle.program.proofs.laws.a_command_that_has_all_is_answered.Goals as goal

pub returns : goal.returns
returns c = complete_law

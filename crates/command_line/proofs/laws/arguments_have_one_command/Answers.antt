use Rattle.command_line.proofs.CommandLaws.{one_command}
use Rattle.command_line.proofs.laws.arguments_have_one_command.Goals as goal

pub returns : goal.returns
returns c = one_command

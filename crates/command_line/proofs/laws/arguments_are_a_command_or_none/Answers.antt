use Rattle.command_line.proofs.SomeCommand.{command_or_none}
use Rattle.command_line.proofs.laws.arguments_are_a_command_or_none.Goals as goal

pub returns : goal.returns
returns c = command_or_none

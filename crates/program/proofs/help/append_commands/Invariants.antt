use Rattle.std.proofs.Common.{◌≡◌, ◌++◌, take}
use Rattle.std.specs.List.{flat_map}
use Rattle.program.specs.Help.{text_of}
use Rattle.program.proofs.help.append_commands.Given as goal

abbrev pub invariant-loop-command : goal.invariant-loop-command
invariant-loop-command l = l.text ≡ l.initial.text ++ flat_map text_of (take l.command-index l.commands)

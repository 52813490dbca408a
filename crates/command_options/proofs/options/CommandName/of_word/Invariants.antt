use Rattle.std.proofs.Common.{◌≡◌, None, take}
use Rattle.std.specs.List.{find}
use Rattle.std.specs.Str.{bytes_eq}
use Rattle.command_options.specs.Names.{command_word}
use Rattle.command_options.proofs.options.CommandName.of_word.Given as goal

abbrev pub invariant-loop-command : goal.invariant-loop-command
invariant-loop-command l = find (λ command. bytes_eq l.word (command_word command)) (take l.command-index l.command-items) ≡ None

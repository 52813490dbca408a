use Rattle.std.proofs.Common.{◌≡◌, None, take}
use Rattle.std.specs.List.{find}
use Rattle.std.specs.Str.{bytes_eq}
use Rattle.command_options.specs.Options.{row_of}
use Rattle.command_options.proofs.options.CommandOption.of_word.Given as goal

abbrev pub invariant-loop-option : goal.invariant-loop-option
invariant-loop-option l = find (λ option. bytes_eq l.word (row_of option).word) (take l.option-index l.option-items) ≡ None

-- The words after the name of a command. No public clause cites this module.
use Rattle.std.specs.Prelude.{ℕ, List, ◌∷◌}
use Rattle.command_line.specs.Command.{CommandLine, IsCommand}

-- they spell the command after this name
abbrev pub IsAfter : List ℕ → List (List ℕ) → CommandLine → Type 0
IsAfter name words command = IsCommand (name ∷ words) command

abbrev pub NoneAfter : List ℕ → List (List ℕ) → Type 0
NoneAfter name words = (command : CommandLine) → ¬ IsAfter name words command

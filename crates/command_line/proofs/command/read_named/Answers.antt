use Rattle.std.proofs.Common.{List, ℕ, map, string_bytes, subst, sym}
use Rattle.command_line.specs.Command.{line_of}
use Rattle.command_line.specs.tools.After.{IsAfter, NoneAfter}
use Rattle.command_line.proofs.Results.{if_none, if_some}
use Rattle.command_line.proofs.SomeCommand.{name_is}
use Rattle.command_line.proofs.command.read_named.Goals as goal

pub returns-in-Some-clause-none : goal.returns-in-Some-clause-none
returns-in-Some-clause-none c =
    if_none c.read_command.result
    (λ none. subst (λ (word : List ℕ). NoneAfter word (map string_bytes c.args.words.now)) (sym (name_is c.args.name.now c.in-Some.command (sym c.in-Some.ensures))) none)
    c.read_command.ensures.none

pub returns-in-Some-clause-some : goal.returns-in-Some-clause-some
returns-in-Some-clause-some c =
    if_some c.read_command.result
    (λ line is. subst (λ (word : List ℕ). IsAfter word (map string_bytes c.args.words.now) (line_of line)) (sym (name_is c.args.name.now c.in-Some.command (sym c.in-Some.ensures))) is)
    c.read_command.ensures.some

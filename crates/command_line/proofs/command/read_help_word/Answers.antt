use Rattle.std.proofs.Common.{map, string_bytes, sym}
use Rattle.command_line.proofs.SomeCommand.{help_alone, help_of, no_topic, topic_and_more}
use Rattle.command_line.proofs.command.read_help_word.Goals as goal

pub returns-in_default-clause-some : goal.returns-in_default-clause-some
returns-in_default-clause-some c = help_alone (map string_bytes c.args.words.now) c.in_default.ensures.none

pub returns-in_err-command-clause-none : goal.returns-in_err-command-clause-none
returns-in_err-command-clause-none c = rw c.from_residual.ensures
    (no_topic (map string_bytes c.args.words.now) c.in-Some.name.now (map string_bytes c.in-Some.others.now) c.in-Some.ensures.some (sym c.in_err-command.ensures))

pub returns-in-None-clause-some : goal.returns-in-None-clause-some
returns-in-None-clause-some c =
    help_of (map string_bytes c.args.words.now) c.in-Some.name.now (map string_bytes c.in-Some.others.now) c.in_ok-command.command c.in-Some.ensures.some c.in-None.ensures.none (sym c.in_ok-command.ensures)

pub returns-in-Some-first_of-clause-none : goal.returns-in-Some-first_of-clause-none
returns-in-Some-first_of-clause-none c =
    topic_and_more (map string_bytes c.args.words.now) c.in-Some.name.now _ (map string_bytes c.in-Some.others.now) _ c.in-Some.ensures.some c.in-Some-first_of.ensures.some

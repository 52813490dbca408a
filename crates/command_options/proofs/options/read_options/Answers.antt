use Rattle.std.proofs.Common.{map, string_bytes}
use Rattle.command_options.proofs.OptionLists.{none_found_yet, if_none}
use Rattle.command_options.proofs.options.read_options.Goals as goal

pub returns-clause-none : goal.returns-clause-none
returns-clause-none c =
    if_none c.read_more.result (λ none options are. none (map string_bytes c.args.words.now) options (none_found_yet c.args.command c.new.result _ c.new.ensures) are) c.read_more.ensures.none

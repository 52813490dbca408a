use Rattle.command_options.proofs.OptionLists.{comes_next, none_found_yet, one_more_found}
use Rattle.command_options.proofs.laws.options_are_found_in_turn.Goals as goal

pub returns : goal.returns
returns c = record { first = none_found_yet; more = one_more_found; next = comes_next }

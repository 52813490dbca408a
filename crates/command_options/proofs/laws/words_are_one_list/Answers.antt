use Rattle.command_options.proofs.OptionLists.{begins, one_list}
use Rattle.command_options.proofs.laws.words_are_one_list.Goals as goal

pub returns : goal.returns
returns c = record { one = one_list; more = begins }

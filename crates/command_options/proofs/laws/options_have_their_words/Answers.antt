use Rattle.command_options.proofs.OptionLists.{found_none, name_is, value_had, value_none, word_had}
use Rattle.command_options.proofs.laws.options_have_their_words.Goals as goal

pub returns : goal.returns
returns c = record { name = name_is; none = λ name options. (found_none name options, value_none name options); word = value_had; right = word_had }

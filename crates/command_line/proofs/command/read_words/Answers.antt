use Rattle.command_line.specs.Command.{line_of}
use Rattle.command_line.proofs.CommandWords.{timely, right_nonce}
use Rattle.command_line.proofs.Results.{if_some}
use Rattle.command_line.proofs.command.read_words.Goals as goal

pub returns-in-len1-up-clause-timely : goal.returns-in-len1-up-clause-timely
returns-in-len1-up-clause-timely c = if_some c.read_named.result (λ command is. timely _ (line_of command) is) c.read_named.ensures.some

pub returns-in-len1-up-clause-nonce : goal.returns-in-len1-up-clause-nonce
returns-in-len1-up-clause-nonce c = if_some c.read_named.result (λ command is. right_nonce _ (line_of command) is) c.read_named.ensures.some

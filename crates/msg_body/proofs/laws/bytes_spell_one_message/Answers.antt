use Rattle.msg_body.proofs.OneMessages.{one_message_law, no_message_in_prefix_law}
use Rattle.msg_body.proofs.laws.bytes_spell_one_message.Goals as goal

pub returns-clause-one : goal.returns-clause-one
returns-clause-one c = one_message_law

pub returns-clause-prefix : goal.returns-clause-prefix
returns-clause-prefix c = no_message_in_prefix_law

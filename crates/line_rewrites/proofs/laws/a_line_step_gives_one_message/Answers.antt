use Rattle.line_rewrites.proofs.Deciding.{has_message_or_none}
use Rattle.line_rewrites.proofs.StepKinds.{depends_on_messages, gives_kind}
use Rattle.line_rewrites.proofs.Results.{gives_one_message}
use Rattle.line_rewrites.proofs.laws.a_line_step_gives_one_message.Goals as goal

pub returns : goal.returns
returns c = record { one = gives_one_message; some = has_message_or_none; kind = gives_kind; depends = depends_on_messages }

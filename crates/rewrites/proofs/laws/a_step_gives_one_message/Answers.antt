use Rattle.rewrites.proofs.StepKinds.{gives_kind}
use Rattle.rewrites.proofs.StepLaws.{gives_one_message, has_message_or_none}
use Rattle.rewrites.proofs.laws.a_step_gives_one_message.Goals as goal

pub returns : goal.returns
returns c = record { one = gives_one_message; some = has_message_or_none; kind = gives_kind }

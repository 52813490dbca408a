use Rattle.commands.proofs.LowerRewriting.{message_where_rewritten, verdict_where_rewritten}
use Rattle.commands.proofs.laws.what_is_rewritten_keeps_its_verdict.Goals as goal

pub returns : goal.returns
returns c = record { message = message_where_rewritten; verdict = verdict_where_rewritten }

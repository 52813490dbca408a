-- Laws of rewritings, over those of the crate below.
use Rattle.rewrites.proofs.StepKinds.{depends_on_messages, gives_kind}
use Rattle.rewrites.proofs.StepLaws.{gives_one_message, has_message_or_none, permits_or_not}
use Rattle.rewrites.proofs.Kept.{keeps_over_steps}
use Rattle.commands.specs.Laws.{HasOneRewritten, HasSomeRewritten}
use Rattle.commands.specs.RewrittenMessages.{HasVerdictWhereRewritten, IsMessageWhereRewritten}
use Rattle.commands.proofs.OneRewriting as one
use Rattle.commands.proofs.RewrittenMessages as messages

pub one_rewritten : HasOneRewritten
one_rewritten = one.one_rewritten gives_one_message

pub has_some_rewritten : HasSomeRewritten
has_some_rewritten = one.has_some_rewritten has_message_or_none permits_or_not

pub message_where_rewritten : IsMessageWhereRewritten
message_where_rewritten = messages.message_where_rewritten gives_kind

pub verdict_where_rewritten : HasVerdictWhereRewritten
verdict_where_rewritten = messages.verdict_where_rewritten gives_kind depends_on_messages keeps_over_steps

use Rattle.msg_body.specs.Views.{message_of}
use Rattle.program.specs.Intake.{taken_of}
use Rattle.program.proofs.Layers.{went_on}
use Rattle.program.proofs.Reports.{never}
use Rattle.program.proofs.Sources.{own_of_explanation}
use Rattle.program.proofs.over_message.ExplainWordsOverMessage.answer.Goals as goal

pub unreachable-requires : goal.unreachable-requires
unreachable-requires c = never c.args.self.now.other.now (rw c.in-None.is at c.requires.other)

pub explain_outcome-requires-clause-other_whole : goal.explain_outcome-requires-clause-other_whole
explain_outcome-requires-clause-other_whole c = rw c.in-Some.is at c.requires.other

pub returns-clause-report : goal.returns-clause-report
returns-clause-report c = rw c.in-Some.is c.explain_outcome.ensures.report

pub returns-clause-own : goal.returns-clause-own
returns-clause-own c =
    went_on (own_of_explanation c.args.self.now.label.now (message_of c.in-Some.other.now) (taken_of c.args.taken.now).context) c.explain_outcome.result c.explain_outcome.ensures.report

use Rattle.program.specs.Intake.{taken_of}
use Rattle.program.proofs.Layers.{went_on}
use Rattle.program.proofs.Sources.{own_of_base}
use Rattle.program.proofs.over_message.BaseWordsOverMessage.answer.Goals as goal

pub returns-clause-report : goal.returns-clause-report
returns-clause-report c = rw c.as_bytes.ensures.value at c.base_outcome.ensures.report

pub returns-clause-own : goal.returns-clause-own
returns-clause-own c =
    went_on (own_of_base c.as_bytes.result.now (taken_of c.args.taken.now).context) c.base_outcome.result c.base_outcome.ensures.report

use Rattle.program.specs.Intake.{taken_of}
use Rattle.program.proofs.Layers.{went_on}
use Rattle.program.proofs.TurnedTexts.{own_of_list}
use Rattle.program.proofs.over_message.ListsWordsOverMessage.answer.Goals as goal

pub returns-clause-own : goal.returns-clause-own
returns-clause-own c =
    went_on (own_of_list (taken_of c.args.taken.now).context) c.list_outcome.result c.list_outcome.ensures.report

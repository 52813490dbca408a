use Rattle.conf.specs.ConfMeaning.{meaning}
use Rattle.program.proofs.Layers.{went_on}
use Rattle.program.proofs.TurnedTexts.{turned_after}
use Rattle.program.proofs.over_text.ListsWordsOverText.answer.Goals as goal

pub returns-clause-after : goal.returns-clause-after
returns-clause-after c =
    went_on (λ outcome. turned_after (meaning c.args.conf.now) c.args.text.now outcome c.requires) c.message_outcome.result c.message_outcome.ensures.report

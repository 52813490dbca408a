use Rattle.std.specs.Prelude.{option_map}
use Rattle.program.specs.Intake.{taken_of}
use Rattle.program.proofs.Layers.{went_on}
use Rattle.program.proofs.Sources.{own_of_rewriting}
use Rattle.program.proofs.over_message.RewriteWordsOverMessage.answer.Goals as goal

pub returns-clause-own : goal.returns-clause-own
returns-clause-own c =
    went_on (own_of_rewriting (option_map (λ word. word.now) c.args.self.now.label) (taken_of c.args.taken.now).script (taken_of c.args.taken.now).context) c.rewrite_outcome.result c.rewrite_outcome.ensures.report

use Rattle.program.specs.Intake.{taken_of}
use Rattle.program.proofs.Layers.{went_on}
use Rattle.program.proofs.Sources.{own_of_negotiation}
use Rattle.program.proofs.over_message.NegotiateWordsOverMessage.answer.Goals as goal

pub returns-clause-own : goal.returns-clause-own
returns-clause-own c =
    went_on (own_of_negotiation c.args.self.now.now (taken_of c.args.taken.now).conf (taken_of c.args.taken.now).context) c.negotiate_outcome.result c.negotiate_outcome.ensures.report

use Rattle.std.proofs.Common.{Some, None}
use Rattle.std.specs.Prelude.{option_map}
use Rattle.msg_body.specs.Views.{message_of}
use Rattle.program.specs.Intake.{taken_of}
use Rattle.program.proofs.Layers.{went_on}
use Rattle.program.proofs.Sources.{own_of_signing}
use Rattle.program.proofs.over_message.SignWordsOverMessage.answer.Goals as goal

pub returns-in-None-clause-own : goal.returns-in-None-clause-own
returns-in-None-clause-own c =
    went_on (own_of_signing (option_map (λ word. word.now) c.args.self.now.nonce) c.args.self.now.now (taken_of c.args.taken.now).conf None (taken_of c.args.taken.now).context) c.sign_outcome.result c.sign_outcome.ensures.report

pub returns-in-Some-clause-own : goal.returns-in-Some-clause-own
returns-in-Some-clause-own c =
    went_on (own_of_signing (option_map (λ word. word.now) c.args.self.now.nonce) c.args.self.now.now (taken_of c.args.taken.now).conf (Some (message_of c.in-Some.wishes.now)) (taken_of c.args.taken.now).context)
    c.wished_outcome.result c.wished_outcome.ensures.report

pub returns-in-None-clause-report : goal.returns-in-None-clause-report
returns-in-None-clause-report c = rw c.in-None.is c.sign_outcome.ensures.report

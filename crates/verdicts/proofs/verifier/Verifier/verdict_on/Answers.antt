use Rattle.verdicts.specs.Verification.{verification_by}
use Rattle.verdicts.proofs.verifier.Verifier.verdict_on.Goals as goal

pub returns-clause-is : goal.returns-clause-is
returns-clause-is g c = c.verdict_of.ensures.is (verification_by c.args.self.now c.args.exchange.now.context c.args.signed.now.label.now) c.judge_signature.ensures.explains

pub returns-clause-in_range : goal.returns-clause-in_range
returns-clause-in_range g c = c.verdict_of.ensures.in_range (verification_by c.args.self.now c.args.exchange.now.context c.args.signed.now.label.now) c.judge_signature.ensures.explains

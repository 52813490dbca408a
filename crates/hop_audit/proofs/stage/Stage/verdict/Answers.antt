use Rattle.hop_audit.proofs.stage.Stage.verdict.Goals as goal

pub verdict_on-requires-clause-in_range : goal.verdict_on-requires-clause-in_range
verdict_on-requires-clause-in_range g c = c.in-Some.ensures.in_range c.self.inside.exchange.context.message c.self.invariant.signatures_are

use Rattle.samples.specs.tools.Made.{SpellsSample}
use Rattle.samples.proofs.MadeHops.{AreMadeSoFar}
use Rattle.samples.proofs.chain.hops_from.Given as goal

abbrev pub invariant-loop : goal.invariant-loop
invariant-loop l = (own : SpellsSample l.seed l.first) → AreMadeSoFar own.signed l.seed l.counter l.hops l.draws.state l.text

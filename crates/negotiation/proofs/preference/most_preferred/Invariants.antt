use Rattle.negotiation.specs.tools.Preferring.{IsPreferredSoFar}
use Rattle.negotiation.proofs.preference.most_preferred.Given as goal

abbrev pub invariant-loop-member : goal.invariant-loop-member
invariant-loop-member l = IsPreferredSoFar l.members l.member-index l.greatest l.algorithm

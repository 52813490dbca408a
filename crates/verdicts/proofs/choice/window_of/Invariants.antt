use Rattle.std.proofs.Common.{◌≡◌, drop, max}
use Rattle.verdicts.specs.Choice.{window_over}
use Rattle.verdicts.proofs.choice.window_of.Given as goal

abbrev pub invariant-loop-policy : goal.invariant-loop-policy
invariant-loop-policy l = max l.window (window_over (drop l.policy-index l.policy-items)) ≡ window_over l.policy-items

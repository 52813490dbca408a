use Rattle.std.proofs.Common.{◌≡◌, ◌≤◌, take}
use Rattle.verdicts.specs.Verification.{verification_by}
use Rattle.gateway.specs.Accepted.{AreRefused}
use Rattle.gateway.proofs.accepted.first_accepted.Given as goal

abbrev pub invariant-loop-label : goal.invariant-loop-label
invariant-loop-label g l =
    AreRefused (verification_by l.verifier l.fn.exchange.context) (take l.label-index l.labels) × (l.exchange.context ≡ l.fn.exchange.context) × (l.fn.steps ≤ l.steps)

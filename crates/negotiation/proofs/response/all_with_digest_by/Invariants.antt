use Rattle.std.proofs.Common.{◌≡◌, Some, map, take}
use Rattle.negotiation.specs.Negotiated.{with_digest_by}
use Rattle.negotiation.proofs.response.all_with_digest_by.Given as goal

abbrev pub invariant-loop-spec : goal.invariant-loop-spec
invariant-loop-spec l = l.others ≡ map (with_digest_by (Some l.algorithm)) (take l.spec-index l.specs)

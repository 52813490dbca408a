use Rattle.std.proofs.Common.{◌+◌, ◌-◌, length, map}
use Rattle.std.specs.List.{count_by}
use Rattle.nonces.specs.Buckets.{is_in_bucket}
use Rattle.nonces.specs.tools.Nodes.{entries_in, entry_in}
use Rattle.nonces.proofs.Stored.{IsWalk}
use Rattle.nonces.proofs.store.Store.find.Given as goal

abbrev pub invariant-chain : goal.invariant-chain
invariant-chain g l =
    IsWalk l.self-inside.nodes (length l.self-inside.chains) l.bucket l.keyid l.nonce l.link l.fn.steps l.steps

-- each look at a node is a step
abbrev pub decreases-chain : goal.decreases-chain
decreases-chain g l =
    l.fn.steps
    + count_by (is_in_bucket (length l.self-inside.chains) l.bucket) (entries_in (map entry_in l.self-inside.nodes))
    + 1
    - l.steps

use Rattle.nonces.proofs.Stored.{free_entries, opened}
use Rattle.nonces.proofs.store.Store.open.Goals as goal

pub invariant_of-result : goal.invariant_of-result
invariant_of-result c =
    rw (c.in_ok-nodes.ensures, c.in_ok-chains.ensures)
    (opened c.args.capacity c.bucket_count.result c.requires.some c.bucket_count.ensures)

pub returns : goal.returns
returns c = rw c.in_ok-nodes.ensures (free_entries c.args.capacity)

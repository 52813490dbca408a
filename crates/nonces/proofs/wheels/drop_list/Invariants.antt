use Rattle.std.proofs.Common.{Bool, length}
use Rattle.nonces.specs.Books.{Entry}
use Rattle.nonces.specs.tools.Links.{IsListOf}
use Rattle.nonces.specs.tools.Nodes.{Holds, entries_of, link_at}
use Rattle.nonces.proofs.Wheel.{IsDrop}
use Rattle.nonces.proofs.wheels.drop_list.Given as goal

abbrev pub invariant-list : goal.invariant-list
invariant-list g l =
    (test : Entry → Bool) → IsListOf (link_at l.fn.store) l.fn.first (Holds test l.fn.store.entries)
    → IsDrop l.fn.store l.store test l.link l.fn.steps l.steps

abbrev pub decreases-list : goal.decreases-list
decreases-list g l = length (entries_of l.store)

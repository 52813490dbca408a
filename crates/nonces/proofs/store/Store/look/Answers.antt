use Rattle.nonces.proofs.Stored.{held_below}
use Rattle.nonces.proofs.store.Store.look.Goals as goal

pub look-node-requires : goal.look-node-requires
look-node-requires g c = held_below c.self.inside.nodes c.args.index (rw (← c.self.view_is) at c.requires)

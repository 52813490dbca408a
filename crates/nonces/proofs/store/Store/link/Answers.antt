use Rattle.nonces.proofs.Stored.{held_below, relinked, relinked_entries, relinked_link, relinked_links}
use Rattle.nonces.proofs.store.Store.link.Goals as goal

pub set_after-requires : goal.set_after-requires
set_after-requires c = held_below c.self.inside.nodes c.args.index (rw (← c.self.view_is) at c.requires)

pub invariant_of-self : goal.invariant_of-self
invariant_of-self c =
    let held = rw (← c.self.view_is) at c.requires in
    rw c.set_after.ensures
    (relinked c.self.inside.nodes c.self.inside.chains c.self.inside.free c.self.inside.len c.args.index c.args.after c.self.invariant held)

pub returns-clause-entries : goal.returns-clause-entries
returns-clause-entries c =
    rw (c.set_after.ensures, ← c.self.view_is) (relinked_entries c.self.inside.nodes c.args.index c.args.after)

pub returns-clause-link : goal.returns-clause-link
returns-clause-link c =
    let held = rw (← c.self.view_is) at c.requires in
    rw c.set_after.ensures (relinked_link c.self.inside.nodes c.args.index c.args.after (held_below c.self.inside.nodes c.args.index held))

pub returns-clause-links : goal.returns-clause-links
returns-clause-links c =
    let held = rw (← c.self.view_is) at c.requires in
    rw (c.set_after.ensures, ← c.self.view_is) (
    λ j other. relinked_links c.self.inside.nodes c.args.index c.args.after j (held_below c.self.inside.nodes c.args.index held) other
    )

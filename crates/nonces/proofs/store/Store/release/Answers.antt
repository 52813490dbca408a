use Rattle.std.proofs.Common.{◌≡◌, ◌<◌, IfSome, length, map, sym, ◌∙◌, ap, subst, arith}
use Rattle.nonces.specs.tools.Nodes.{entry_in}
use Rattle.nonces.proofs.Entries.{length_out}
use Rattle.nonces.proofs.Stored.{length_changed, neighbours, own_bucket, released, released_entries, released_links}
use Rattle.nonces.proofs.store.Store.release.Goals as goal

pub link_next-requires-clause-bucket : goal.link_next-requires-clause-bucket
link_next-requires-clause-bucket g c =
    let held = rw (← c.self.view_is) at c.requires in
    rw c.look-node.ensures.node (own_bucket c.self.inside.nodes c.self.inside.chains c.self.inside.free c.self.inside.len c.args.index c.self.invariant held).0

pub link_next-requires-clause-previous : goal.link_next-requires-clause-previous
link_next-requires-clause-previous g c =
    let held = rw (← c.self.view_is) at c.requires in
    rw c.look-node.ensures.node (neighbours c.self.inside.nodes c.self.inside.chains c.self.inside.free c.self.inside.len c.args.index c.self.invariant held).1

pub link_previous-requires : goal.link_previous-requires
link_previous-requires g c =
    let held = rw (← c.self.view_is) at c.requires in
    let node = c.look-node.result.now in
    let same : length c.link_next.new.nodes ≡ length c.self.inside.nodes =
    ap length c.link_next.ensures.nodes ∙ length_changed (λ n. record n { next = node.next }) c.self.inside.nodes node.previous in
    subst (λ m. IfSome node.next (λ index. index < m)) (sym same)
    (rw c.look-node.ensures.node (neighbours c.self.inside.nodes c.self.inside.chains c.self.inside.free c.self.inside.len c.args.index c.self.invariant held).2)

pub overflow_sub-self : goal.overflow_sub-self
overflow_sub-self g c =
    let held = rw (← c.self.view_is) at c.requires in
    omega (arith, c.self.invariant.counted, length_out (map entry_in c.self.inside.nodes) c.args.index held.0 held.1)

pub invariant_of-self : goal.invariant_of-self
invariant_of-self g c =
    let held = rw (← c.self.view_is) at c.requires in
    rw (c.set_free.ensures, c.link_previous.ensures, c.link_next.ensures.nodes, c.link_next.ensures.chains, c.look-node.ensures.node)
    (released c.self.inside.nodes c.self.inside.chains c.self.inside.free c.self.inside.len c.args.index c.self.invariant held)

pub returns-clause-entries : goal.returns-clause-entries
returns-clause-entries g c =
    rw (c.set_free.ensures, c.link_previous.ensures, c.link_next.ensures.nodes, c.look-node.ensures.node, ← c.self.view_is)
    (released_entries c.self.inside.nodes c.args.index c.self.inside.free)

pub returns-clause-links : goal.returns-clause-links
returns-clause-links g c =
    let held = rw (← c.self.view_is) at c.requires in
    let near = neighbours c.self.inside.nodes c.self.inside.chains c.self.inside.free c.self.inside.len c.args.index c.self.invariant held in
    rw (c.set_free.ensures, c.link_previous.ensures, c.link_next.ensures.nodes, c.look-node.ensures.node, ← c.self.view_is)
    (λ j other. released_links c.self.inside.nodes c.args.index c.self.inside.free j near.0 other)

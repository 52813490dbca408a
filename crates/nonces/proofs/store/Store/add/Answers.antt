use Rattle.std.proofs.Common.{◌≡◌, ◌<◌, Some, None, IfSome, length, sym, ◌∙◌, ap, subst, arith}
use Rattle.std.proofs.lemmas.List.{length-set}
use Rattle.nonces.specs.declared.arrays.Node.{Node}
use Rattle.nonces.specs.tools.Nodes.{IsStore}
use Rattle.nonces.proofs.Stored.{added, added_entries, added_link, added_links, entry_bucket, first_spare, no_spare}
use Rattle.nonces.proofs.store.Store.add.Goals as goal

pub unreachable-requires : goal.unreachable-requires
unreachable-requires g c =
    let room = rw (← c.self.view_is) at c.requires.room in
    let store =
    subst (λ f. IsStore c.self.inside.nodes c.self.inside.chains f c.self.inside.len) c.in_default.is c.self.invariant in
    omega (arith, room, no_spare c.self.inside.nodes c.self.inside.chains c.self.inside.len store)

pub look-requires : goal.look-requires
look-requires g c = (first_spare c.self.inside.nodes c.self.inside.chains c.self.inside.free c.self.inside.len c.in-Some.index c.self.invariant c.in-Some.is).1

pub set-requires : goal.set-requires
set-requires g c = (first_spare c.self.inside.nodes c.self.inside.chains c.self.inside.free c.self.inside.len c.in-Some.index c.self.invariant c.in-Some.is).1

pub link_previous-requires : goal.link_previous-requires
link_previous-requires g c =
    let bucket = rw (c.len.ensures, c.keyid.ensures, c.nonce.ensures) at c.bucket_of-bucket.ensures in
    let same : length c.set.new.self ≡ length c.self.inside.nodes =
    ap length c.set.ensures ∙ length-set c.self.inside.nodes c.in-Some.index _ in
    subst (λ m. IfSome c.look-next.result (λ index. index < m)) (sym same) (
    rw (c.look-next.ensures.head, bucket) (entry_bucket c.self.inside.nodes c.self.inside.chains c.self.inside.free c.self.inside.len c.args.entry c.self.invariant).1
    )

pub invariant_of-self : goal.invariant_of-self
invariant_of-self g c =
    let bucket = rw (c.len.ensures, c.keyid.ensures, c.nonce.ensures) at c.bucket_of-bucket.ensures in
    rw (c.link_previous.ensures, c.set.ensures, c.set-2.ensures, c.look.ensures.node, c.look-next.ensures.head, bucket) (
    added c.self.inside.nodes c.self.inside.chains c.self.inside.free c.self.inside.len c.in-Some.index c.args.entry c.args.after
    c.self.invariant c.in-Some.is
    )

pub returns-clause-within : goal.returns-clause-within
returns-clause-within g c =
    rw (← c.self.view_is) (first_spare c.self.inside.nodes c.self.inside.chains c.self.inside.free c.self.inside.len c.in-Some.index c.self.invariant c.in-Some.is).0.0

pub returns-clause-free : goal.returns-clause-free
returns-clause-free g c =
    rw (← c.self.view_is) (first_spare c.self.inside.nodes c.self.inside.chains c.self.inside.free c.self.inside.len c.in-Some.index c.self.invariant c.in-Some.is).0.1

pub returns-clause-entries : goal.returns-clause-entries
returns-clause-entries g c =
    let node : Node =
    record {
      entry = Some c.args.entry;
      bucket = c.bucket_of-bucket.result;
      next = c.look-next.result;
      previous = None;
      after = c.args.after;
    } in
    rw (c.link_previous.ensures, c.set.ensures, ← c.self.view_is) (added_entries c.self.inside.nodes c.in-Some.index node)

pub returns-clause-link : goal.returns-clause-link
returns-clause-link g c =
    let node : Node =
    record {
      entry = Some c.args.entry;
      bucket = c.bucket_of-bucket.result;
      next = c.look-next.result;
      previous = None;
      after = c.args.after;
    } in
    rw (c.link_previous.ensures, c.set.ensures) (
    added_link c.self.inside.nodes c.in-Some.index node
    (first_spare c.self.inside.nodes c.self.inside.chains c.self.inside.free c.self.inside.len c.in-Some.index c.self.invariant c.in-Some.is).1
    )

pub returns-clause-links : goal.returns-clause-links
returns-clause-links g c =
    let node : Node =
    record {
      entry = Some c.args.entry;
      bucket = c.bucket_of-bucket.result;
      next = c.look-next.result;
      previous = None;
      after = c.args.after;
    } in
    rw (c.link_previous.ensures, c.set.ensures, ← c.self.view_is)
    (λ j other. added_links c.self.inside.nodes c.in-Some.index node j other)

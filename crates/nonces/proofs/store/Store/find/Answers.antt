use Rattle.std.proofs.Common.{◌≡◌, true, false, length, sym, arith}
use Rattle.nonces.specs.tools.Nodes.{holds_of, node_at}
use Rattle.nonces.proofs.Stored.{walk_begins, walk_cost, walk_ends, walk_finds, walk_goes, walk_within}
use Rattle.nonces.proofs.store.Store.find.Goals as goal

pub chain-init : goal.chain-init
chain-init g c =
    let bucket = rw c.len.ensures at c.bucket_of-bucket.ensures in
    rw (c.look-link.ensures.head, c.look-link.ensures.steps) (
    walk_begins c.self.inside.nodes c.self.inside.chains c.self.inside.free c.self.inside.len c.bucket_of-bucket.result
    c.args.keyid.now c.args.nonce.now c.args.steps.now c.self.invariant bucket
    )

pub look-node-requires : goal.look-node-requires
look-node-requires g c =
    (walk_within c.self.inside.nodes (length c.self.inside.chains) c.bucket_of-bucket.result c.args.keyid.now c.args.nonce.now c.chain.link c.args.steps.now c.chain.steps c.in-Some.index c.chain.invariant c.in-Some.is).0

pub returns-then-is_of-clause-found : goal.returns-then-is_of-clause-found
returns-then-is_of-clause-found g c =
    let holds : holds_of c.args.keyid.now c.args.nonce.now (node_at c.self.inside.nodes c.in-Some.index).entry ≡ true = (
    let node = c.look-node.ensures.node in
    let is = c.if-is_of.ensures in
    cc
    ) in
    rw (← c.self.view_is) (sym (walk_finds c.self.inside.nodes c.args.keyid.now c.args.nonce.now c.in-Some.index holds))

pub returns-then-is_of-clause-cost : goal.returns-then-is_of-clause-cost
returns-then-is_of-clause-cost g c =
    let bucket = rw c.len.ensures at c.bucket_of-bucket.ensures in
    let within = walk_within c.self.inside.nodes (length c.self.inside.chains) c.bucket_of-bucket.result c.args.keyid.now c.args.nonce.now c.chain.link c.args.steps.now c.chain.steps c.in-Some.index c.chain.invariant c.in-Some.is in
    walk_cost c.self.inside.nodes c.self.inside.chains c.self.inside.free c.self.inside.len c.args.self.now c.self.view_is c.self.invariant
    c.bucket_of-bucket.result c.args.keyid.now c.args.nonce.now bucket c.look-node.new.steps c.args.steps.now
    (omega (arith, c.look-node.ensures.steps, within.1))

pub chain-preserved : goal.chain-preserved
chain-preserved g c =
    let fails : holds_of c.args.keyid.now c.args.nonce.now (node_at c.self.inside.nodes c.in-Some.index).entry ≡ false = (
    let node = c.look-node.ensures.node in
    let is = c.if-is_of.ensures in
    cc
    ) in
    rw (c.look-node.ensures.node, c.look-node.ensures.steps) (
    walk_goes c.self.inside.nodes (length c.self.inside.chains) c.bucket_of-bucket.result c.args.keyid.now c.args.nonce.now c.chain.link c.args.steps.now c.chain.steps c.in-Some.index c.chain.invariant c.in-Some.is fails
    )

pub returns-clause-found : goal.returns-clause-found
returns-clause-found g c =
    rw (← c.self.view_is) (
    sym (walk_ends c.self.inside.nodes (length c.self.inside.chains) c.bucket_of-bucket.result c.args.keyid.now c.args.nonce.now c.chain.link c.args.steps.now c.chain.steps c.chain.invariant c.in_default.is)
    )

pub returns-clause-cost : goal.returns-clause-cost
returns-clause-cost g c =
    let bucket = rw c.len.ensures at c.bucket_of-bucket.ensures in
    walk_cost c.self.inside.nodes c.self.inside.chains c.self.inside.free c.self.inside.len c.args.self.now c.self.view_is c.self.invariant
    c.bucket_of-bucket.result c.args.keyid.now c.args.nonce.now bucket c.chain.steps c.args.steps.now
    (omega (arith, c.chain.invariant.cost))

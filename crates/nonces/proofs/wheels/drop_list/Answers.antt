use Rattle.nonces.proofs.Wheel.{drop_begins, drop_ends, drop_goes, drop_holds, drop_less}
use Rattle.nonces.proofs.wheels.drop_list.Goals as goal

pub list-init : goal.list-init
list-init g c = λ test list. drop_begins c.args.store.now test c.args.first _ list

pub release-link-requires : goal.release-link-requires
release-link-requires g c =
    let test = c.requires.0 in
    drop_holds c.args.store.now c.list.store test c.list.link _ c.list.steps c.in-Some.index
    (c.list.invariant test c.requires.1) c.in-Some.is

pub list-preserved : goal.list-preserved
list-preserved g c =
    λ test list.
    rw (c.release-link.ensures.link, c.release-link.ensures.steps) (
    drop_goes c.args.store.now c.list.store c.release-link.new.self test c.list.link _ c.list.steps c.in-Some.index
    (c.list.invariant test list) c.in-Some.is c.release-link.ensures.entries c.release-link.ensures.links
    )

pub list-smaller : goal.list-smaller
list-smaller g c =
    let test = c.requires.0 in
    drop_less c.args.store.now c.list.store c.release-link.new.self test c.list.link _ c.list.steps c.in-Some.index
    (c.list.invariant test c.requires.1) c.in-Some.is c.release-link.ensures.entries

pub returns-clause-entries : goal.returns-clause-entries
returns-clause-entries g c =
    λ test list.
    drop_ends c.args.store.now c.list.store test c.list.link _ c.list.steps (c.list.invariant test list) c.in_default.is

pub returns-clause-links : goal.returns-clause-links
returns-clause-links g c = (c.list.invariant c.requires.0 c.requires.1).links

pub returns-clause-rises : goal.returns-clause-rises
returns-clause-rises g c = (c.list.invariant c.requires.0 c.requires.1).rises

pub returns-clause-cost : goal.returns-clause-cost
returns-clause-cost g c = (c.list.invariant c.requires.0 c.requires.1).cost

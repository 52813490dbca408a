use Rattle.std.proofs.Common.{◌≡◌, ◌+◌, ◌∙◌, arith}
use Rattle.nonces.proofs.Moved.{move_begins, move_dead, move_ends, move_live, move_looks, move_wheel}
use Rattle.nonces.proofs.wheels.refine.Goals as goal

pub list-init : goal.list-init
list-init g c = move_begins c.args.store.now c.args.fine.now c.args.now c.args.first _ c.requires.size c.requires.empty c.requires.list

pub look-until-requires : goal.look-until-requires
look-until-requires g c =
    move_looks c.args.store.now c.list.store c.list.fine c.args.now c.list.link _ c.list.steps c.in-Some.index c.list.invariant c.in-Some.is

pub list-preserved-then-until-now : goal.list-preserved-then-until-now
list-preserved-then-until-now g c =
    let two : c.release.new.steps ≡ c.list.steps + 2 = omega (arith, c.release.ensures.steps, c.look-until.ensures.steps) in
    rw (c.look-until.ensures.link, two) (
    move_dead c.args.store.now c.list.store c.release.new.self c.list.fine c.args.now c.list.link _ c.list.steps c.in-Some.index
    c.look-until.result.0 c.list.invariant c.in-Some.is c.look-until.ensures.until c.if-until-now.true c.release.ensures.entries
    c.release.ensures.links
    )

pub list-preserved : goal.list-preserved
list-preserved g c =
    let two : c.look-second.new.steps ≡ c.list.steps + 2 = omega (arith, c.look-second.ensures.steps, c.look-until.ensures.steps) in
    rw (c.look-until.ensures.link, two, c.set.ensures) (
    move_live c.args.store.now c.list.store c.link.new.self c.list.fine c.args.now c.list.link _ c.list.steps c.in-Some.index
    c.look-until.result.0 c.list.invariant c.in-Some.is c.look-until.ensures.until (omega (arith, c.if-until-now.false))
    c.link.ensures.entries (c.link.ensures.link ∙ c.look-second.ensures.head) c.link.ensures.links
    )

pub returns-clause-entries : goal.returns-clause-entries
returns-clause-entries g c = move_ends c.args.store.now c.list.store c.list.fine c.args.now c.list.link _ c.list.steps c.list.invariant c.in_default.is

pub returns-clause-wheel : goal.returns-clause-wheel
returns-clause-wheel g c = move_wheel c.args.store.now c.list.store c.list.fine c.args.now c.list.link _ c.list.steps c.list.invariant c.in_default.is

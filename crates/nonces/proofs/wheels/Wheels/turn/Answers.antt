use Rattle.std.proofs.Common.{◌+◌, ◌*◌, ◌∙◌, arith}
use Rattle.nonces.specs.Books.{hour_of}
use Rattle.nonces.specs.declared.limits.TheConstants.{MAX_HOURS, SECONDS_PER_HOUR}
use Rattle.nonces.proofs.Turned.{hour_below, turn_empty, turn_entries, turn_list, turned}
use Rattle.nonces.proofs.wheels.Wheels.turn.Goals as goal

pub look-first-requires : goal.look-first-requires
look-first-requires g c =
    let old = c.self.inside in hour_below old.store old.fine old.coarse old.hour c.hour_of-hour.result c.self.invariant

pub set-requires : goal.set-requires
set-requires g c =
    let old = c.self.inside in hour_below old.store old.fine old.coarse old.hour c.hour_of-hour.result c.self.invariant

pub refine-requires-clause-empty : goal.refine-requires-clause-empty
refine-requires-clause-empty g c =
    let old = c.self.inside in
    let later = rw (← c.self.view_is) at c.requires.later in
    let within = rw (← c.self.view_is) at c.requires.within in
    turn_empty old.store old.fine old.coarse old.hour (hour_of c.args.now) ((hour_of c.args.now + MAX_HOURS) * SECONDS_PER_HOUR)
    c.self.invariant later within

pub refine-requires-clause-list : goal.refine-requires-clause-list
refine-requires-clause-list g c =
    let old = c.self.inside in
    let later = rw (← c.self.view_is) at c.requires.later in
    let within = rw (← c.self.view_is) at c.requires.within in
    rw (c.look-first.ensures.head, c.hour_of-hour.ensures)
    (turn_list old.store old.fine old.coarse old.hour (hour_of c.args.now) c.self.invariant later within)

pub invariant_of-self : goal.invariant_of-self
invariant_of-self g c =
    let old = c.self.inside in
    let later = rw (← c.self.view_is) at c.requires.later in
    let within = rw (← c.self.view_is) at c.requires.within in
    rw (c.set.ensures, c.hour_of-hour.ensures) (
    turned old.store c.refine.new.store old.fine c.refine.new.fine old.coarse old.hour c.args.now c.self.invariant later within
    c.refine.ensures.entries c.refine.ensures.links c.refine.ensures.size c.refine.ensures.wheel
    )

pub returns-clause-entries : goal.returns-clause-entries
returns-clause-entries g c =
    let old = c.self.inside in
    let within = rw (← c.self.view_is) at c.requires.within in
    rw (← c.self.view_is) (
    c.refine.ensures.entries
    ∙ turn_entries old.store.entries c.args.now ((hour_of c.args.now + MAX_HOURS) * SECONDS_PER_HOUR) within
    )

pub returns-clause-cost : goal.returns-clause-cost
returns-clause-cost g c = rw (← c.self.view_is) (omega (arith, c.refine.ensures.cost, c.look-first.ensures.steps))

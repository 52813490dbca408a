use Rattle.std.proofs.Common.{◌%◌, ◌∙◌}
use Rattle.nonces.specs.declared.limits.TheConstants.{MAX_HOURS}
use Rattle.nonces.specs.tools.Links.{IsListOf}
use Rattle.nonces.specs.tools.Nodes.{Holds, link_at}
use Rattle.nonces.specs.tools.Wheels.{is_coarse}
use Rattle.nonces.proofs.Turned.{hour_below, hour_entries, hour_wheels}
use Rattle.nonces.proofs.wheels.Wheels.drop_hour.Goals as goal

pub look-first-requires : goal.look-first-requires
look-first-requires g c =
    let old = c.self.inside in hour_below old.store old.fine old.coarse old.hour c.args.hour c.self.invariant

pub set-requires : goal.set-requires
set-requires g c =
    let old = c.self.inside in hour_below old.store old.fine old.coarse old.hour c.args.hour c.self.invariant

-- the slot's list has the entries of the hour
pub drop_list-requires : goal.drop_list-requires
drop_list-requires g c =
    let old = c.self.inside in
    let s = c.args.hour % MAX_HOURS in (
      is_coarse old.hour s,
      rw c.look-first.ensures.head (c.self.invariant.hours s (hour_below old.store old.fine old.coarse old.hour c.args.hour c.self.invariant)),
    )

pub invariant_of-self : goal.invariant_of-self
invariant_of-self g c =
    let old = c.self.inside in
    let s = c.args.hour % MAX_HOURS in
    let below = hour_below old.store old.fine old.coarse old.hour c.args.hour c.self.invariant in
    let list : IsListOf (link_at old.store) c.look-first.result (Holds (is_coarse old.hour s) old.store.entries) =
    rw c.look-first.ensures.head (c.self.invariant.hours s below) in
    rw c.set.ensures (
    hour_wheels old.store c.drop_list.new.store old.fine old.coarse old.hour s c.self.invariant below
    (c.drop_list.ensures.entries (is_coarse old.hour s) list) c.drop_list.ensures.links
    )

pub returns-clause-entries : goal.returns-clause-entries
returns-clause-entries g c =
    let old = c.self.inside in
    let s = c.args.hour % MAX_HOURS in
    let below = hour_below old.store old.fine old.coarse old.hour c.args.hour c.self.invariant in
    let list : IsListOf (link_at old.store) c.look-first.result (Holds (is_coarse old.hour s) old.store.entries) =
    rw c.look-first.ensures.head (c.self.invariant.hours s below) in
    let within = rw (← c.self.view_is) at c.requires.within in
    let later = rw (← c.self.view_is) at c.requires.later in
    rw (← c.self.view_is) (
    c.drop_list.ensures.entries (is_coarse old.hour s) list ∙ hour_entries old.store.entries old.hour c.args.hour later within
    )

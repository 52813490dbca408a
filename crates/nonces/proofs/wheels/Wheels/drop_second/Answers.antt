use Rattle.std.proofs.Common.{◌%◌, ◌∙◌}
use Rattle.nonces.specs.declared.limits.TheConstants.{SECONDS_PER_HOUR}
use Rattle.nonces.specs.tools.Links.{IsListOf}
use Rattle.nonces.specs.tools.Nodes.{Holds, link_at}
use Rattle.nonces.specs.tools.Wheels.{is_fine}
use Rattle.nonces.proofs.Turned.{second_below, second_entries, second_wheels}
use Rattle.nonces.proofs.wheels.Wheels.drop_second.Goals as goal

-- the slot's list has the entries of the second
pub drop_list-requires : goal.drop_list-requires
drop_list-requires g c =
    let old = c.self.inside in
    let s = c.args.second % SECONDS_PER_HOUR in (
      is_fine old.hour s,
      rw c.look-first.ensures.head (c.self.invariant.seconds s (second_below old.store old.fine old.coarse old.hour c.args.second c.self.invariant)),
    )

pub look-first-requires : goal.look-first-requires
look-first-requires g c =
    let old = c.self.inside in second_below old.store old.fine old.coarse old.hour c.args.second c.self.invariant

pub set-requires : goal.set-requires
set-requires g c =
    let old = c.self.inside in second_below old.store old.fine old.coarse old.hour c.args.second c.self.invariant

pub invariant_of-self : goal.invariant_of-self
invariant_of-self g c =
    let old = c.self.inside in
    let s = c.args.second % SECONDS_PER_HOUR in
    let below = second_below old.store old.fine old.coarse old.hour c.args.second c.self.invariant in
    let list : IsListOf (link_at old.store) c.look-first.result (Holds (is_fine old.hour s) old.store.entries) =
    rw c.look-first.ensures.head (c.self.invariant.seconds s below) in
    rw c.set.ensures (
    second_wheels old.store c.drop_list.new.store old.fine old.coarse old.hour s c.self.invariant below
    (c.drop_list.ensures.entries (is_fine old.hour s) list) c.drop_list.ensures.links
    )

pub returns-clause-entries : goal.returns-clause-entries
returns-clause-entries g c =
    let old = c.self.inside in
    let s = c.args.second % SECONDS_PER_HOUR in
    let below = second_below old.store old.fine old.coarse old.hour c.args.second c.self.invariant in
    let list : IsListOf (link_at old.store) c.look-first.result (Holds (is_fine old.hour s) old.store.entries) =
    rw c.look-first.ensures.head (c.self.invariant.seconds s below) in
    let hour = rw (← c.self.view_is) at c.requires.hour in
    let last = rw (← c.self.view_is) at c.requires.last in
    rw (← c.self.view_is) (
    c.drop_list.ensures.entries (is_fine old.hour s) list
    ∙ second_entries old.store.entries old.hour c.args.second last.0 last.1 hour
    )

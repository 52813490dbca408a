use Rattle.std.proofs.Common.{◌≡◌, ◌≤◌, ◌+◌, ◌*◌, min, arith}
use Rattle.nonces.specs.Books.{hour_of}
use Rattle.nonces.specs.declared.limits.TheConstants.{MAX_HOURS, MAX_WINDOW, SECONDS_PER_HOUR}
use Rattle.nonces.proofs.Turned.{hour_begins, hour_ends, pass_on, pass_within, turn_within, week_hours, within_later}
use Rattle.nonces.proofs.wheels.Wheels.turn_to.Goals as goal

pub drop_seconds-requires-clause-last : goal.drop_seconds-requires-clause-last
drop_seconds-requires-clause-last g c = (c.args.moment + MAX_WINDOW + 1, c.requires.within)

pub drop_seconds-requires-clause-begins : goal.drop_seconds-requires-clause-begins
drop_seconds-requires-clause-begins g c = omega (arith, c.requires.hour, hour_begins c.args.moment)

pub drop_seconds-requires-clause-order : goal.drop_seconds-requires-clause-order
drop_seconds-requires-clause-order g c = omega (arith, c.requires.hour, hour_ends c.args.moment, c.hour-next.ensures)

pub drop_seconds-requires-clause-ends : goal.drop_seconds-requires-clause-ends
drop_seconds-requires-clause-ends g c = omega (arith, c.hour-next.ensures)

pub drop_hours-requires-clause-within : goal.drop_hours-requires-clause-within
drop_hours-requires-clause-within g c =
    let os = c.args.self.now.entries in
    let own = c.args.self.now.hour in
    let next = c.hour-next.result + 1 in
    let mid = c.drop_seconds.new.self.entries in
    let last = (own + MAX_HOURS) * SECONDS_PER_HOUR in
    let week = week_hours c.args.moment own own os c.requires.hour (omega arith) c.requires.within in
    within_later mid (next * SECONDS_PER_HOUR) last ((next + MAX_HOURS) * SECONDS_PER_HOUR)
    (pass_within os mid c.args.moment (next * SECONDS_PER_HOUR) last week c.drop_seconds.ensures.entries)
    (omega (arith, c.hour-next.ensures))

pub drop_hours-requires-clause-later : goal.drop_hours-requires-clause-later
drop_hours-requires-clause-later g c = omega (arith, c.hour-next.ensures, c.drop_seconds.ensures.hour)

pub drop_hours-requires-clause-order : goal.drop_hours-requires-clause-order
drop_hours-requires-clause-order g c =
    omega (arith, c.min-end.ensures, c.hour_of.ensures, c.hour-next.ensures, c.requires.later)

pub turn-requires-clause-within : goal.turn-requires-clause-within
turn-requires-clause-within g c =
    let os = c.args.self.now.entries in
    let own = c.args.self.now.hour in
    let next = c.hour-next.result + 1 in
    let end = c.min-end.result in
    let mid = c.drop_seconds.new.self.entries in
    let left = c.drop_hours.new.self.entries in
    let last = (own + MAX_HOURS) * SECONDS_PER_HOUR in
    let week = week_hours c.args.moment own own os c.requires.hour (omega arith) c.requires.within in
    let end_is : end ≡ min (hour_of c.args.now) (own + MAX_HOURS) =
    omega (arith, c.min-end.ensures, c.hour_of.ensures, c.hour-next.ensures) in
    turn_within left own (hour_of c.args.now) end c.requires.later end_is (
    pass_within mid left (next * SECONDS_PER_HOUR) (end * SECONDS_PER_HOUR) last
    (pass_within os mid c.args.moment (next * SECONDS_PER_HOUR) last week c.drop_seconds.ensures.entries)
    c.drop_hours.ensures.entries
    )

pub turn-requires-clause-later : goal.turn-requires-clause-later
turn-requires-clause-later g c =
    omega (arith, c.requires.later, c.drop_seconds.ensures.hour, c.drop_hours.ensures.hour)

pub returns-clause-entries : goal.returns-clause-entries
returns-clause-entries g c =
    let os = c.args.self.now.entries in
    let now = c.args.now in
    let next = c.hour-next.result + 1 in
    let end = c.min-end.result in
    let mid = c.drop_seconds.new.self.entries in
    let left = c.drop_hours.new.self.entries in
    let new = c.turn.new.self.entries in
    let first : next * SECONDS_PER_HOUR ≤ now =
    omega (arith, hour_begins now, c.requires.later, c.hour-next.ensures) in
    let second : end * SECONDS_PER_HOUR ≤ now =
    omega (arith, hour_begins now, c.min-end.ensures, c.hour_of.ensures) in
    pass_on os mid new (next * SECONDS_PER_HOUR) now first c.drop_seconds.ensures.entries
    (pass_on mid left new (end * SECONDS_PER_HOUR) now second c.drop_hours.ensures.entries c.turn.ensures.entries)

pub returns-clause-cost : goal.returns-clause-cost
returns-clause-cost g c =
    omega (
      arith,
      c.turn.ensures.cost,
      c.drop_hours.ensures.cost,
      c.drop_seconds.ensures.cost,
      hour_begins c.args.moment,
      c.requires.hour,
      c.hour-next.ensures,
      c.min-end.ensures,
    )

use Rattle.std.proofs.Common.{◌≡◌, ◌+◌, ◌*◌, refl, ◌∙◌, ap, arith, map}
use Rattle.nonces.specs.declared.limits.TheConstants.{MAX_HOURS, SECONDS_PER_HOUR}
use Rattle.nonces.specs.tools.Nodes.{let_go}
use Rattle.nonces.specs.tools.Wheels.{is_dead}
use Rattle.nonces.proofs.Turned.{pass_none, pass_on, pass_within, within_later}
use Rattle.nonces.proofs.wheels.Wheels.drop_hours.Goals as goal

pub hours-init : goal.hours-init
hours-init g c = (
  pass_none c.args.self.now.entries (c.args.first * SECONDS_PER_HOUR) ((c.args.first + MAX_HOURS) * SECONDS_PER_HOUR) c.requires.within,
  refl,
  omega arith,
  c.requires.order,
  omega arith,
  omega arith,
)

pub drop_hour-requires-clause-within : goal.drop_hour-requires-clause-within
drop_hour-requires-clause-within g c =
    let held = c.hours.invariant in
    let last = (c.args.first + MAX_HOURS) * SECONDS_PER_HOUR in
    within_later c.hours.self.entries (c.hours.hour * SECONDS_PER_HOUR) last ((c.hours.hour + MAX_HOURS) * SECONDS_PER_HOUR) (
    pass_within c.args.self.now.entries c.hours.self.entries (c.args.first * SECONDS_PER_HOUR) (c.hours.hour * SECONDS_PER_HOUR) last
    c.requires.within held.0
    ) (omega (arith, held.2))

pub drop_hour-requires-clause-later : goal.drop_hour-requires-clause-later
drop_hour-requires-clause-later g c =
    let held = c.hours.invariant in omega (arith, c.requires.later, held.1, held.2)

pub hours-preserved : goal.hours-preserved
hours-preserved g c =
    let held = c.hours.invariant in
    let hour = c.drop_hour.ensures in (
      pass_on c.args.self.now.entries c.hours.self.entries c.drop_hour.new.self.entries (c.hours.hour * SECONDS_PER_HOUR)
          ((c.hours.hour + 1) * SECONDS_PER_HOUR) (omega arith) held.0 hour.entries,
      hour.hour ∙ held.1,
      omega (arith, held.2),
      omega arith,
      omega (arith, held.4, hour.rises),
      omega (arith, held.2, held.5, hour.cost),
    )

pub returns-clause-entries : goal.returns-clause-entries
returns-clause-entries g c =
    let held = c.hours.invariant in
    let ended : c.hours.hour ≡ c.args.end = omega (arith, held.3) in
    held.0 ∙ ap (λ h. map (let_go (is_dead (h * SECONDS_PER_HOUR))) c.args.self.now.entries) ended

use Rattle.std.proofs.Common.{◌≡◌, ◌≤◌, ◌+◌, ◌*◌, ◌-◌, length, map}
use Rattle.nonces.specs.declared.limits.TheConstants.{SECONDS_PER_HOUR}
use Rattle.nonces.specs.tools.Nodes.{entries_in, let_go}
use Rattle.nonces.specs.tools.Wheels.{is_dead}
use Rattle.nonces.proofs.wheels.Wheels.drop_hours.Given as goal

-- what dies before the hour is let go of
abbrev pub invariant-hours : goal.invariant-hours
invariant-hours g l =
    (l.self.entries ≡ map (let_go (is_dead (l.hour * SECONDS_PER_HOUR))) l.fn.self.entries)
    × (l.self.hour ≡ l.fn.self.hour)
    × (l.first ≤ l.hour)
    × (l.hour ≤ l.end)
    × (l.fn.steps ≤ l.steps)
    × (l.steps + 2 * length (entries_in l.self.entries)
    ≤ l.fn.steps + 2 * length (entries_in l.fn.self.entries) + (l.hour - l.first))

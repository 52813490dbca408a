use Rattle.std.proofs.Common.{◌≡◌, ◌≤◌, ◌+◌, ◌*◌, ◌-◌, length, map}
use Rattle.nonces.specs.tools.Nodes.{entries_in, let_go}
use Rattle.nonces.specs.tools.Wheels.{is_dead}
use Rattle.nonces.proofs.wheels.Wheels.drop_seconds.Given as goal

-- what dies before the second is let go of
abbrev pub invariant-seconds : goal.invariant-seconds
invariant-seconds g l =
    (l.self.entries ≡ map (let_go (is_dead l.second)) l.fn.self.entries)
    × (l.self.hour ≡ l.fn.self.hour)
    × (l.first ≤ l.second)
    × (l.second ≤ l.end)
    × (l.fn.steps ≤ l.steps)
    × (l.steps + 2 * length (entries_in l.self.entries)
    ≤ l.fn.steps + 2 * length (entries_in l.fn.self.entries) + (l.second - l.first))

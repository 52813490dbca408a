use Rattle.std.proofs.Common.{◌+◌, ◌*◌, ◌-◌}
use Rattle.std.specs.List.{count_by}
use Rattle.nonces.specs.Books.{ends_in, hour_of}
use Rattle.nonces.specs.tools.Nodes.{entries_of}
use Rattle.nonces.proofs.Moved.{IsMove}
use Rattle.nonces.proofs.wheels.refine.Given as goal

abbrev pub invariant-list : goal.invariant-list
invariant-list g l = IsMove l.fn.store l.store l.fine l.now l.link l.fn.steps l.steps

-- each node takes two steps
abbrev pub decreases-list : goal.decreases-list
decreases-list g l = l.fn.steps + 2 * count_by (ends_in (hour_of l.now)) (entries_of l.fn.store) - l.steps

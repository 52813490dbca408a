use Rattle.nonces.proofs.Turned.{wheels_opened}
use Rattle.nonces.proofs.wheels.Wheels.open.Goals as goal

pub invariant_of-result : goal.invariant_of-result
invariant_of-result c =
    rw (c.in_ok-fine.ensures, c.in_ok-coarse.ensures)
    (wheels_opened c.in_ok-store.store c.args.capacity c.args.hour c.in_ok-store.ensures)

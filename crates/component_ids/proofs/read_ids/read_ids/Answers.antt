use Rattle.component_ids.proofs.FaultLaws.{ids_back}
use Rattle.component_ids.proofs.read_ids.read_ids.Goals as goal

pub returns-in-Some-clause-fault : goal.returns-in-Some-clause-fault
returns-in-Some-clause-fault c =
    let back = ids_back c.in_ok-ids.ids c.args.items.now c.in_ok-ids.ensures.is in
    (c.in_ok-ids.ensures.each, rw (back, ← c.as_slice.ensures) c.in-Some.ensures.some)

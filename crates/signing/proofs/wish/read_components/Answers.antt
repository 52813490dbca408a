use Rattle.signing.proofs.Wishing.{read_ids_answered}
use Rattle.signing.proofs.wish.read_components.Goals as goal

pub returns : goal.returns
returns c =
    rw c.fault_of_ids.ensures
    (read_ids_answered c.args.list.now (record { items = c.in_ok-copy_of_items.field-0; params = c.new.result }) c.in-Err.fault
    (λ i. record { items = c.in_ok-copy_of_items.ensures i; params = c.new.ensures i }) c.in-Err.ensures.fault)

use Rattle.component_ids.proofs.SameLaws.{same_decides}
use Rattle.component_ids.proofs.same.same_id.Goals as goal

pub returns : goal.returns
returns c = rw c.is_same.ensures (same_decides c.args.a.now c.args.b.now)

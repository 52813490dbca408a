use Rattle.verdicts.proofs.Uncovered.{same_test}
use Rattle.verdicts.proofs.coverage.is_same.Goals as goal

pub returns : goal.returns
returns c = same_test c.args.a.now c.args.b.now c.same_id.result c.same_id.ensures

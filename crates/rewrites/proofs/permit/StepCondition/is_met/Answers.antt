use Rattle.rewrites.proofs.Kept.{keeps_where_permitted}
use Rattle.rewrites.proofs.Permitting.{keeps_permitted}
use Rattle.rewrites.proofs.permit.StepCondition.is_met.Goals as goal

pub returns-in-Lines-clause-keeps : goal.returns-in-Lines-clause-keeps
returns-in-Lines-clause-keeps c =
    keeps_permitted c.args.self.now c.args.params.now c.is_met.result keeps_where_permitted (rw c.in-Lines.is c.is_met.ensures)

pub returns-in-Whole-clause-keeps : goal.returns-in-Whole-clause-keeps
returns-in-Whole-clause-keeps c =
    keeps_permitted c.args.self.now c.args.params.now c.is_met-in-Whole.result keeps_where_permitted (rw c.in-Whole.is c.is_met-in-Whole.ensures)

use Rattle.component_values.specs.Context.{context_of}
use Rattle.rewrites.proofs.Applied.{fault_is, is_spelled, keeps_signature}
use Rattle.rewrites.proofs.Kept.{keeps_where_permitted}
use Rattle.rewrites.proofs.step.apply.Goals as goal

pub returns-clause-spells : goal.returns-clause-spells
returns-clause-spells c = is_spelled (context_of c.args.context.now) c.args.step.now c.judge.result c.judge.ensures

pub returns-clause-keeps : goal.returns-clause-keeps
returns-clause-keeps c = keeps_signature (context_of c.args.context.now) c.args.step.now c.judge.result keeps_where_permitted c.requires.writable c.judge.ensures

pub returns-clause-fault : goal.returns-clause-fault
returns-clause-fault c = fault_is (context_of c.args.context.now) c.args.step.now c.judge.result c.judge.ensures

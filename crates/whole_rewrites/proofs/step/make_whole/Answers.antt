use Rattle.component_values.specs.Context.{context_of}
use Rattle.whole_rewrites.proofs.WholeLaws.{whole_fault, whole_spells}
use Rattle.whole_rewrites.proofs.step.make_whole.Goals as goal

pub returns-clause-ok : goal.returns-clause-ok
returns-clause-ok c = whole_spells (context_of c.args.context.now) c.args.step.now c.made.result c.made.ensures

pub returns-clause-fault : goal.returns-clause-fault
returns-clause-fault c = whole_fault (context_of c.args.context.now) c.args.step.now c.made.result c.made.ensures

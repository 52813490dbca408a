use Rattle.component_values.specs.Context.{context_of}
use Rattle.line_rewrites.proofs.Applied.{none_made, tells_step}
use Rattle.line_rewrites.proofs.step.make_lines.Goals as goal

pub returns-clause-ok : goal.returns-clause-ok
returns-clause-ok c = tells_step (context_of c.args.context.now) c.args.step.now c.rewritten.result c.requires.whole c.requires.writable c.rewritten.ensures

pub returns-clause-fault : goal.returns-clause-fault
returns-clause-fault c = none_made (context_of c.args.context.now) c.args.step.now c.rewritten.result c.rewritten.ensures

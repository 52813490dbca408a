use Rattle.component_values.specs.Context.{context_of}
use Rattle.rewrites.proofs.permit.permits.Goals as goal

pub returns-clause-keeps : goal.returns-clause-keeps
returns-clause-keeps c =
    c.is_met.ensures.keeps (context_of c.args.context.now) c.args.step.now c.args.label.now c.in_ok-condition.ensures c.requires.writable

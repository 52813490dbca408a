use Rattle.component_values.specs.Context.{context_of}
use Rattle.negotiation.proofs.Signing.{each_fault_is, spells_each}
use Rattle.negotiation.proofs.each.sign_each.Goals as goal

pub returns-clause-ok : goal.returns-clause-ok
returns-clause-ok c = spells_each (context_of c.args.context.now) c.args.specs.now c.judge.result c.judge.ensures

pub returns-clause-fault : goal.returns-clause-fault
returns-clause-fault c = each_fault_is (context_of c.args.context.now) c.args.specs.now c.judge.result c.judge.ensures

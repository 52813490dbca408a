use Rattle.std.proofs.Common.{subst, List}
use Rattle.component_ids.specs.declared.id.ComponentId.{ComponentId}
use Rattle.component_values.specs.Context.{context_of}
use Rattle.commands.specs.tools.Prepared.{SaysFault}
use Rattle.commands.proofs.Lacking.{lacking_outcome}
use Rattle.commands.proofs.base.base_of.Goals as goal

pub stop_for_fault-requires-clause-there : goal.stop_for_fault-requires-clause-there
stop_for_fault-requires-clause-there c =
    rw c.as_slice.ensures c.in-Err.ensures.index

pub returns-in-Err-clause-report : goal.returns-in-Err-clause-report
returns-in-Err-clause-report c =
    lacking_outcome (context_of c.args.context.now) c.args.sig.now c.in-Err.fault c.stop_for_fault.result
    c.in-Err.ensures.lacks (subst (λ (ids : List ComponentId). SaysFault ids c.in-Err.fault c.stop_for_fault.result) c.as_slice.ensures c.stop_for_fault.ensures)

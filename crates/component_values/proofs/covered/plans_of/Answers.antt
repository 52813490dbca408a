use Rattle.component_values.specs.Context.{context_of}
use Rattle.component_values.proofs.FirstLacks.{values_more, first_fault_at}
use Rattle.component_values.proofs.covered.plans_of.Goals as goal

pub loop-id-preserved : goal.loop-id-preserved
loop-id-preserved c =
    rw c.in_ok-push-in-Ok.ensures.ok (
      values_more (context_of c.args.context.now) c.args.ids.now c.loop-id.id-index c.id-item.result c.loop-id.plans c.in-Ok.plan
          c.loop-id-test.true c.id-item.is c.loop-id.invariant.0 c.in-Ok.ensures.row,
      c.in-Ok.ensures.readings,
    )

pub returns-in-Err-clause-fault : goal.returns-in-Err-clause-fault
returns-in-Err-clause-fault c =
    rw c.lack_fault.ensures
    (first_fault_at (context_of c.args.context.now) c.args.ids.now c.loop-id.id-index c.len.result c.id-item.result c.in-Err.why c.loop-id.plans
    c.loop-id-test.true c.id-item.is c.len.ensures c.loop-id.invariant.0 c.in-Err.ensures.row)

use Rattle.component_values.specs.Context.{context_of}
use Rattle.commands.proofs.Signing.{each_quietly, each_reported, each_stopped, place_in}
use Rattle.commands.proofs.sign.sign_specs.Goals as goal

pub stop_for_each_fault-requires-clause-there : goal.stop_for_each_fault-requires-clause-there
stop_for_each_fault-requires-clause-there c =
    place_in (context_of c.args.context.now) c.args.specs.now c.in-Err.fault c.in-Err.ensures.fault

pub returns-in-Ok-clause-report : goal.returns-in-Ok-clause-report
returns-in-Ok-clause-report c =
    each_reported c.args.specs.now (context_of c.args.context.now) c.in-Ok.text c.in-Ok.ensures.ok

pub returns-in-Err-clause-report : goal.returns-in-Err-clause-report
returns-in-Err-clause-report c =
    each_stopped c.args.specs.now (context_of c.args.context.now) c.in-Err.fault c.stop_for_each_fault.result c.in-Err.ensures.fault c.stop_for_each_fault.ensures

pub returns-in-Err-clause-reads_nothing : goal.returns-in-Err-clause-reads_nothing
returns-in-Err-clause-reads_nothing c =
    each_quietly c.args.specs.now c.in-Err.fault c.stop_for_each_fault.result c.stop_for_each_fault.ensures

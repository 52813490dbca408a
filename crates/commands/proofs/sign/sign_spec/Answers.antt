use Rattle.std.proofs.Common.{[]}
use Rattle.component_values.specs.Context.{context_of}
use Rattle.commands.proofs.Signing.{index_in, sign_stopped, signed_made, stop_reported, stopped_quietly, text_reported}
use Rattle.commands.proofs.sign.sign_spec.Goals as goal

pub stop_for_sign_fault-requires-clause-there : goal.stop_for_sign_fault-requires-clause-there
stop_for_sign_fault-requires-clause-there c =
    index_in (context_of c.args.context.now) c.args.spec.now c.in-Err.fault c.in-Err.ensures.fault

pub returns-in-Ok-clause-report : goal.returns-in-Ok-clause-report
returns-in-Ok-clause-report c =
    let context = context_of c.args.context.now in
    text_reported context c.args.spec.now c.in-Ok.text (signed_made context c.args.spec.now c.in-Ok.text c.in-Ok.ensures.spells c.in-Ok.ensures.fault)

pub returns-in-Err-clause-report : goal.returns-in-Err-clause-report
returns-in-Err-clause-report c =
    let context = context_of c.args.context.now in
    stop_reported context c.args.spec.now [] c.stop_for_sign_fault.result (sign_stopped context c.args.spec.now c.in-Err.fault c.stop_for_sign_fault.result c.in-Err.ensures.fault c.stop_for_sign_fault.ensures)

pub returns-in-Err-clause-reads_nothing : goal.returns-in-Err-clause-reads_nothing
returns-in-Err-clause-reads_nothing c =
    let context = context_of c.args.context.now in
    stopped_quietly context c.args.spec.now c.stop_for_sign_fault.result (sign_stopped context c.args.spec.now c.in-Err.fault c.stop_for_sign_fault.result c.in-Err.ensures.fault c.stop_for_sign_fault.ensures)

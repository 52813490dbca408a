use Rattle.std.proofs.Common.{refl}
use Rattle.component_values.specs.Context.{context_of}
use Rattle.conf.specs.ConfMeaning.{meaning}
use Rattle.commands.proofs.Negotiating.{negotiated, stop_reported, stopped_quietly}
use Rattle.commands.proofs.negotiate.negotiate_outcome.Goals as goal

pub returns-in-Ok-clause-report : goal.returns-in-Ok-clause-report
returns-in-Ok-clause-report c =
    negotiated (meaning c.args.conf.now) c.args.now (context_of c.args.context.now) c.in-Ok.text c.in-Ok.ensures.ok c.in-Ok.ensures.fault

pub returns-in-Err-clause-report : goal.returns-in-Err-clause-report
returns-in-Err-clause-report c =
    stop_reported (meaning c.args.conf.now) c.args.now (context_of c.args.context.now) c.stop_for_negotiate_fault.result c.stop_for_negotiate_fault.ensures

pub returns-in-Err-clause-reads_nothing : goal.returns-in-Err-clause-reads_nothing
returns-in-Err-clause-reads_nothing c =
    stopped_quietly (meaning c.args.conf.now) c.args.now (context_of c.args.context.now) c.stop_for_negotiate_fault.result c.stop_for_negotiate_fault.ensures

pub stop_for_negotiate_fault-requires-clause-is : goal.stop_for_negotiate_fault-requires-clause-is
stop_for_negotiate_fault-requires-clause-is c = λ known. (c.in-Err.ensures.fault c.in-Err.fault known).only refl

use Rattle.std.proofs.Common.{subst, List}
use Rattle.std.proofs.lemmas.Result.{err_from_is_err_and}
use Rattle.conf.specs.ConfMeaning.{meaning}
use Rattle.msg_body.specs.Views.{message_of}
use Rattle.component_values.specs.Context.{context_of}
use Rattle.signing.specs.declared.spec.SignSpec.{SignSpec}
use Rattle.commands.specs.Sign.{ReportsEach}
use Rattle.commands.specs.Outcome.{IfOutcome}
use Rattle.commands.proofs.Signing.{want_stopped, wished}
use Rattle.commands.proofs.sign.wished_outcome.Goals as goal

pub returns-in_err-specs-clause-report : goal.returns-in_err-specs-clause-report
returns-in_err-specs-clause-report c =
    let p = err_from_is_err_and c.from_residual.result c.from_residual.ensures.1 in
    rw (p.1, p.2) (want_stopped (meaning c.args.conf.now) c.args.now (message_of c.args.wishes.now) (context_of c.args.context.now) c.in_err-specs.field-0.0 c.in_err-specs.ensures.fault)

pub returns-clause-report : goal.returns-clause-report
returns-clause-report c =
    wished (meaning c.args.conf.now) c.args.now (message_of c.args.wishes.now) (context_of c.args.context.now) c.in_ok-specs.specs c.sign_specs.result c.in_ok-specs.ensures.ok c.in_ok-specs.ensures.fault
    (subst (λ (ss : List SignSpec). IfOutcome c.sign_specs.result (ReportsEach (context_of c.args.context.now) ss)) c.as_slice.ensures c.sign_specs.ensures.report)

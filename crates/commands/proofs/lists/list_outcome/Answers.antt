use Rattle.std.proofs.Common.{inl, refl}
use Rattle.std.proofs.lemmas.Result.{err_from_is_err_and}
use Rattle.component_values.specs.Context.{context_of}
use Rattle.commands.proofs.Turning.{from_stop}
use Rattle.commands.proofs.lists.list_outcome.Goals as goal

pub returns-in_err-list-clause-report : goal.returns-in_err-list-clause-report
returns-in_err-list-clause-report c =
    let p = err_from_is_err_and c.from_residual.result c.from_residual.ensures.1 in
    rw (p.1, p.2) (from_stop (context_of c.args.context.now) c.in_err-list.field-0.0 c.in_err-list.ensures.fault)

pub returns-clause-report : goal.returns-clause-report
returns-clause-report c =
    inl (c.in_ok-list.list, c.in_ok-list.ensures.ok, rw c.in_ok-text.ensures refl)

use Rattle.std.proofs.lemmas.Result.{err_from_is_err_and}
use Rattle.component_values.specs.Context.{context_of, context_with}
use Rattle.msg_body.specs.Views.{message_of}
use Rattle.commands.proofs.Explaining.{covered_where_differs, differs_reported, fault_reported, same_reported}
use Rattle.commands.proofs.explain.explain_outcome.Goals as goal

pub returns-in_err-first-clause-report : goal.returns-in_err-first-clause-report
returns-in_err-first-clause-report c =
    let p = err_from_is_err_and c.from_residual.result c.from_residual.ensures.1 in
    rw (p.1, p.2) (fault_reported c.args.label.now (message_of c.args.other.now) (context_of c.args.context.now) c.in_err-first.field-0.0
    (rw c.as_bytes.ensures.value at c.in_err-first.ensures.fault))

pub difference-requires : goal.difference-requires
difference-requires c =
    let context = context_of c.args.context.now in
    rw c.as_bytes-in-Differs.ensures.value (covered_where_differs context (context_with context (message_of c.args.other.now)) c.args.label.now c.in-Differs.index
    (rw c.in-Differs.is at (rw c.as_bytes.ensures.value at c.in_ok-first.ensures.ok)))

pub returns-in_ok-text-in-Same-clause-report : goal.returns-in_ok-text-in-Same-clause-report
returns-in_ok-text-in-Same-clause-report c =
    same_reported c.args.label.now (message_of c.args.other.now) (context_of c.args.context.now) c.in_ok-first.field-0 c.in-Same.first c.in-Same.second c.in_ok-text-in-Same.text c.in-Same.is
    (rw c.as_bytes.ensures.value at c.in_ok-first.ensures.ok) (rw c.as_bytes.ensures.value at c.in_ok-first.ensures.fault)
    (rw (c.as_slice.ensures, c.as_slice-in-Same.ensures) at c.in_ok-text-in-Same.ensures)

pub returns-in_ok-difference-in-Differs-clause-report :
    goal.returns-in_ok-difference-in-Differs-clause-report
returns-in_ok-difference-in-Differs-clause-report c =
    differs_reported c.args.label.now (message_of c.args.other.now) (context_of c.args.context.now) c.in_ok-first.field-0 c.in-Differs.index c.in_ok-difference-in-Differs.field-0 c.in-Differs.is
    (rw c.as_bytes.ensures.value at c.in_ok-first.ensures.ok) (rw c.as_bytes.ensures.value at c.in_ok-first.ensures.fault)
    (rw c.as_bytes-in-Differs.ensures.value at c.in_ok-difference-in-Differs.ensures)

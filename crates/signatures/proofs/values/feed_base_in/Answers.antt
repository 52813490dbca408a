use Rattle.std.proofs.lemmas.Result.{err_from_is_err_and}
use Rattle.component_values.specs.Values.{IsFirstLack}
use Rattle.component_values.specs.declared.fault.ValueFault.TheVariants.{Memory, Lacks}
use Rattle.signatures.specs.tools.Held.{held_context}
use Rattle.signatures.proofs.Answering.{fault_answers, value_answers}
use Rattle.signatures.proofs.values.feed_base_in.Goals as goal

pub returns-in_err-prepared-clause-lacks : goal.returns-in_err-prepared-clause-lacks
returns-in_err-prepared-clause-lacks g c = λ index lack.
    let p = err_from_is_err_and c.from_residual.result c.from_residual.ensures.1 in
    let lacks = rw c.context-context.ensures at (c.in_err-prepared.ensures.lacks index lack) in
    rw (p.1, p.2) (fault_answers Memory c.in_err-prepared.field-0.0 (Lacks index lack) (IsFirstLack (held_context c.args.held.now) c.args.params.now.ids index lack) lacks)

pub returns-clause-base : goal.returns-clause-base
returns-clause-base g c =
    let prepared = c.in_ok-prepared.prepared in
    (prepared.values, rw c.context-context.ensures at c.in_ok-prepared.ensures.values, λ text absorbed. rw c.in_ok-prepared.ensures.params at (c.feed_base.ensures text absorbed))

pub returns-clause-lacks : goal.returns-clause-lacks
returns-clause-lacks g c = λ index lack.
    let lacks = rw c.context-context.ensures at (c.in_ok-prepared.ensures.lacks index lack) in
    value_answers Memory Memory (Lacks index lack) (IsFirstLack (held_context c.args.held.now) c.args.params.now.ids index lack) c.in_ok-prepared.prepared _ lacks

use Rattle.std.proofs.Common.{Err, ap, sym, subst, ◌∙◌}
use Rattle.component_values.specs.Context.{MessageContext}
use Rattle.component_values.specs.Values.{HaveValues, IsFirstLack}
use Rattle.signing.proofs.Made.{too_long, fits, lack_answered}
use Rattle.signing.proofs.message.make_of_context.Goals as goal

pub returns-in-Ok : goal.returns-in-Ok
returns-in-Ok c = λ unsigned same are.
    c.make_of_prepared.ensures unsigned are (subst (λ (m : MessageContext). HaveValues m c.args.spec.now.params.ids c.in-Ok.prepared.values) same c.in-Ok.ensures.values)

pub returns-in-Some : goal.returns-in-Some
returns-in-Some c = λ unsigned same are.
    too_long unsigned c.args.spec.now are.none c.in-Some.limit (sym (c.in_ok-limit-in-Err.ensures unsigned.message are.parts_are are.digest_is) ∙ c.in-Some.is)

pub returns-in-None : goal.returns-in-None
returns-in-None c = λ unsigned same are.
    let spec = c.args.spec.now in
    rw c.lack_fault_of.ensures
    (lack_answered unsigned spec (fits unsigned spec are.none (sym (c.in_ok-limit-in-Err.ensures unsigned.message are.parts_are are.digest_is) ∙ c.in-None.is)) c.in-Err.fault
    (λ index lack is. subst (λ (m : MessageContext). IsFirstLack m spec.params.ids index lack) same ((c.in-Err.ensures.lacks index lack).only (ap Err is))))

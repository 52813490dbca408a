use Rattle.std.proofs.Common.{ℕ, Option, List, sym, subst}
use Rattle.component_values.specs.Context.{context_of}
use Rattle.gateway.specs.tools.Walked.{SpellsGiven}
use Rattle.gateway.proofs.Forwarding.{goes_again}
use Rattle.gateway.proofs.forward.Forwarding.advance.Goals as goal

pub returns : goal.returns
returns c = λ message given.
    let context = context_of c.args.context.now in
    let lent = subst (λ (o : Option (List ℕ)). SpellsGiven context o message) (sym c.as_ref.ensures.value) given in
    goes_again c.args.self.now context c.args.steps.now message c.args.made c.args.given.now c.meet_again.result (rw c.in_default.is at c.in_ok-met.ensures) given (c.meet_again.ensures message lent)

use Rattle.std.proofs.Common.{List, ℕ, IfOk, subst}
use Rattle.signatures.specs.Signatures.{AreLabels}
use Rattle.signatures.specs.Exchanges.{ExchangeState}
use Rattle.signatures.specs.tools.Held.{held_context}
use Rattle.signatures.proofs.exchange.Exchange.labels.Goals as goal

pub returns-in-Some-clause-labels : goal.returns-in-Some-clause-labels
returns-in-Some-clause-labels c =
    subst (λ (state : ExchangeState). IfOk c.labels.result (λ (labels : List (List ℕ)). AreLabels state.context.message labels)) c.self.view_is
    (c.labels.ensures (held_context c.self.inside.held).message (rw c.in-Some.is at c.self.invariant.fields_are))

pub returns-clause-labels : goal.returns-clause-labels
returns-clause-labels c =
    subst (λ (state : ExchangeState). IfOk c.labels-labels.result (λ (labels : List (List ℕ)). AreLabels state.context.message labels)) c.self.view_is
    (c.labels-labels.ensures (held_context c.self.inside.held).message (rw c.view.ensures at c.in_ok-fields.ensures))

pub invariant_of-self : goal.invariant_of-self
invariant_of-self c =
    record { fields_are = rw c.view.ensures at c.in_ok-fields.ensures; values_are = c.self.invariant.values_are; digest_is = c.self.invariant.digest_is }

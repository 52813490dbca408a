use Rattle.std.proofs.Common.{IfOk, subst}
use Rattle.signatures.specs.Exchanges.{ExchangeState}
use Rattle.signatures.specs.MessageSignatures.{AreSignaturesOf}
use Rattle.signatures.specs.tools.Held.{held_context}
use Rattle.signatures.proofs.exchange.Exchange.signatures.Goals as goal

pub returns-in-Some-clause-signatures : goal.returns-in-Some-clause-signatures
returns-in-Some-clause-signatures c =
    subst (λ (state : ExchangeState). IfOk c.of.result (AreSignaturesOf state.context.message)) c.self.view_is
    (c.of.ensures (held_context c.self.inside.held).message (rw c.in-Some.is at c.self.invariant.fields_are))

pub returns-clause-signatures : goal.returns-clause-signatures
returns-clause-signatures c =
    subst (λ (state : ExchangeState). IfOk c.of-signatures.result (AreSignaturesOf state.context.message)) c.self.view_is
    (c.of-signatures.ensures (held_context c.self.inside.held).message (rw c.view.ensures at c.in_ok-fields.ensures))

pub invariant_of-self : goal.invariant_of-self
invariant_of-self c =
    record { fields_are = rw c.view.ensures at c.in_ok-fields.ensures; values_are = c.self.invariant.values_are; digest_is = c.self.invariant.digest_is }

use Rattle.std.proofs.Common.{IfOk, subst}
use Rattle.byte_grammar.specs.Causes.{AnswersWhere}
use Rattle.signatures.specs.Rules.{IsLabelUnread}
use Rattle.signatures.specs.Signatures.{HasSignature}
use Rattle.signatures.specs.declared.label.LabelFault.TheVariants.{Memory, Rule as IsRule}
use Rattle.signatures.specs.declared.label.LabelRead.{LabelRead}
use Rattle.signatures.specs.declared.place.Place.{Place}
use Rattle.signatures.specs.declared.rule.Rule.{Rule}
use Rattle.signatures.specs.Exchanges.{ExchangeState}
use Rattle.signatures.specs.tools.Held.{held_context}
use Rattle.signatures.proofs.exchange.Exchange.label.Goals as goal

pub returns-in-Some-clause-ok : goal.returns-in-Some-clause-ok
returns-in-Some-clause-ok c =
    subst (λ (state : ExchangeState). IfOk c.label.result (λ (read : LabelRead). HasSignature state.context.message c.args.label.now read.params read.tag)) c.self.view_is
    (c.label.ensures.ok (held_context c.self.inside.held).message (rw c.in-Some.is at c.self.invariant.fields_are))

pub returns-clause-ok : goal.returns-clause-ok
returns-clause-ok c =
    subst (λ (state : ExchangeState). IfOk c.label-read.result (λ (read : LabelRead). HasSignature state.context.message c.args.label.now read.params read.tag)) c.self.view_is
    (c.label-read.ensures.ok (held_context c.self.inside.held).message (rw c.view.ensures at c.in_ok-fields.ensures))

pub returns-in-Some-clause-in_range : goal.returns-in-Some-clause-in_range
returns-in-Some-clause-in_range c =
    c.label.ensures.in_range (held_context c.self.inside.held).message (rw c.in-Some.is at c.self.invariant.fields_are)

pub returns-clause-in_range : goal.returns-clause-in_range
returns-clause-in_range c =
    c.label-read.ensures.in_range (held_context c.self.inside.held).message (rw c.view.ensures at c.in_ok-fields.ensures)

pub returns-in-Some-clause-fault : goal.returns-in-Some-clause-fault
returns-in-Some-clause-fault c =
    subst (λ (state : ExchangeState). (rule : Rule) (place : Place) → AnswersWhere Memory c.label.result (IsRule rule place) (IsLabelUnread state.context.message c.args.label.now rule place)) c.self.view_is
    (c.label.ensures.fault (held_context c.self.inside.held).message (rw c.in-Some.is at c.self.invariant.fields_are))

pub returns-clause-fault : goal.returns-clause-fault
returns-clause-fault c =
    subst (λ (state : ExchangeState). (rule : Rule) (place : Place) → AnswersWhere Memory c.label-read.result (IsRule rule place) (IsLabelUnread state.context.message c.args.label.now rule place)) c.self.view_is
    (c.label-read.ensures.fault (held_context c.self.inside.held).message (rw c.view.ensures at c.in_ok-fields.ensures))

pub invariant_of-self : goal.invariant_of-self
invariant_of-self c =
    record { fields_are = rw c.view.ensures at c.in_ok-fields.ensures; values_are = c.self.invariant.values_are; digest_is = c.self.invariant.digest_is }

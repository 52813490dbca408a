use Rattle.std.proofs.Common.{◌∙◌, ℕ, Ok, sym, ap, subst}
use Rattle.component_values.specs.Context.{MessageContext, context_of}
use Rattle.settings.specs.ConfMeaning.{meaning}
use Rattle.gateway.specs.Records.{GatewayState}
use Rattle.gateway.specs.tools.Judged.{SaysForwardedFrom}
use Rattle.gateway.specs.tools.Walked.{HasSignatureOf}
use Rattle.gateway.specs.declared.own_signature.Forwarded.{Forwarded}
use Rattle.gateway.proofs.Stepping.{forwarded_from, held_outcome, passed_outcome}
use Rattle.gateway.proofs.gateway.Gateway.forward.Goals as goal

pub forward-requires-clause-signature : goal.forward-requires-clause-signature
forward-requires-clause-signature c =
    let is = c.requires.judged.2.1 in
    subst (λ (x : MessageContext). HasSignatureOf c.args.accepted.now x.message) (sym c.context.ensures) (is.tag, is.signature)

pub returns-in_ok-copy-in-Signed : goal.returns-in_ok-copy-in-Signed
returns-in_ok-copy-in-Signed c = λ settings is.
    let state = c.args.self.now in
    let context = c.args.exchange.now.context in
    let accepted = c.args.accepted.now in
    let judged = c.requires.judged in
    let conf = ap (λ (s : GatewayState). s.conf) c.self.view_is in
    let moment = c.moment.ensures ∙ ap (λ (s : GatewayState). s.seen.moment) c.self.view_is in
    let says = forwarded_from {E = ℕ} settings c.settings.result.now state context (context_of c.context.result) accepted (meaning c.self.inside.conf.now) c.moment.result
    c.as_slice-steps.result.now (Ok c.in_ok-message.field-0) c.settings.ensures.is is c.as_slice-steps.ensures c.context.ensures conf moment c.in_ok-message.ensures in
    passed_outcome settings state c.self.inside.count (ap (λ (s : GatewayState). s.count) c.self.view_is) context judged.0 (judged.1 settings is) accepted judged.2.0 judged.2.1 c.in_ok-copy-in-Signed.field-0
    c.in-Signed.message c.in_ok-copy-in-Signed.ensures.ok (subst (λ (f : Forwarded). SaysForwardedFrom settings state context accepted f) c.in-Signed.is says)

pub returns-in-Held : goal.returns-in-Held
returns-in-Held c = λ settings is.
    let state = c.args.self.now in
    let context = c.args.exchange.now.context in
    let accepted = c.args.accepted.now in
    let judged = c.requires.judged in
    let conf = ap (λ (s : GatewayState). s.conf) c.self.view_is in
    let moment = c.moment.ensures ∙ ap (λ (s : GatewayState). s.seen.moment) c.self.view_is in
    let says = forwarded_from {E = ℕ} settings c.settings.result.now state context (context_of c.context.result) accepted (meaning c.self.inside.conf.now) c.moment.result
    c.as_slice-steps.result.now (Ok c.in_ok-message.field-0) c.settings.ensures.is is c.as_slice-steps.ensures c.context.ensures conf moment c.in_ok-message.ensures in
    held_outcome settings state c.self.inside.count (ap (λ (s : GatewayState). s.count) c.self.view_is) context judged.0 (judged.1 settings is) accepted judged.2.0 judged.2.1 c.in-Held.fault
    (subst (λ (f : Forwarded). SaysForwardedFrom settings state context accepted f) c.in-Held.is says)

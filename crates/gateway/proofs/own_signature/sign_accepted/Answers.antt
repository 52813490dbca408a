use Rattle.std.proofs.Common.{◌∙◌, Bool, None, ap, subst}
use Rattle.framing.specs.Framings.{is_request}
use Rattle.component_values.specs.Context.{context_of}
use Rattle.settings.specs.ConfMeaning.{meaning}
use Rattle.signing.specs.Asked.{IsSpecOf}
use Rattle.gateway.specs.tools.Judged.{SaysForwarded, SaysSigned}
use Rattle.gateway.proofs.Stepping.{ok_more}
use Rattle.gateway.proofs.own_signature.sign_accepted.Goals as goal

pub returns : goal.returns
returns c =
    let conf = meaning c.args.conf.now in
    let context = context_of c.args.context.now in
    let spec = c.in_ok-spec.spec in
    let of_request = c.is_request-of_request.ensures ∙ ap is_request c.start.ensures in
    let own = subst (λ (b : Bool). IsSpecOf conf b c.args.now None spec) of_request c.in_ok-spec.ensures.is in
    ok_more (SaysSigned context c.args.accepted.now.params spec) (SaysForwarded conf c.args.now context c.args.accepted.now.params) c.sign_by.result
    (λ outcome says. (spec, own, says)) c.sign_by.ensures

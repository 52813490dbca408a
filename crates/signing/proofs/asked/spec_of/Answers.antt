use Rattle.std.proofs.Common.{sym, ap, ◌∙◌}
use Rattle.std.proofs.lemmas.Result.{IfOk-weaker}
use Rattle.component_ids.specs.declared.params.SigParams.{SigParams}
use Rattle.signing.specs.declared.spec.SignSpec.{SignSpec}
use Rattle.signing.proofs.asked.spec_of.Goals as goal

pub returns-clause-is : goal.returns-clause-is
returns-clause-is c =
    IfOk-weaker c.new.result _ _ (λ spec is. record {
      sign = c.in-Some.sign.now;
      sign_is = sym c.in-Some.ensures.is;
      label = ap (λ (s : SignSpec). s.label) is;
      ids = ap (λ (s : SignSpec). s.params.ids) is ∙ ap (λ (p : SigParams). p.ids) c.in_ok-params.ensures;
      params = ap (λ (s : SignSpec). s.params.params) is ∙ ap (λ (p : SigParams). p.params) c.in_ok-params.ensures;
      key = rw is (sym (rw c.bytes.ensures at c.in-Some-hmac_key.ensures.is));
      digest = ap (λ (s : SignSpec). s.digest) is ∙ c.digest_algorithm-digest.ensures;
    }) c.new.ensures

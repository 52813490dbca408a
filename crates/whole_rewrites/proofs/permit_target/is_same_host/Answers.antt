use Rattle.std.proofs.Common.{◌≡◌, ◌↔◌, IsTrue, false, sym, ap, subst, ◌∙◌, ℕ, List, ◌∷◌}
use Rattle.std.specs.List.{list_all}
use Rattle.byte_grammar.specs.Classes.{is_visible}
use Rattle.msg_head.specs.Values.{value}
use Rattle.component_values.specs.Context.{context_of}
use Rattle.derived_values.specs.Views.{parts_of}
use Rattle.whole_rewrites.specs.Permitted.{IsSameHost}
use Rattle.whole_rewrites.specs.Targets.{AreOneAuthority}
use Rattle.whole_rewrites.specs.tools.Requests.{scheme_in}
use Rattle.whole_rewrites.proofs.TargetPermitHosts.{one_visible, other_visible, same_of_target, value_of_text}
use Rattle.whole_rewrites.proofs.TargetPermitRequests.{no_scheme}
use Rattle.whole_rewrites.proofs.TargetPermitTests.{never_true, same_tests}
use Rattle.whole_rewrites.proofs.permit_target.is_same_host.Goals as goal

pub returns-in_default : goal.returns-in_default
returns-in_default c =
    let context = context_of c.args.context.now in
    let text = c.args.line.raw.now in
    never_true (IsSameHost context text) (λ is. no_scheme context c.in_default.ensures.none is.scheme is.has)

pub returns-in_default-host_of : goal.returns-in_default-host_of
returns-in_default-host_of c =
    let context = context_of c.args.context.now in
    let text = c.args.line.raw.now in
    never_true (IsSameHost context text) (λ is. one_visible is.scheme is.host (value (32 ∷ text)) (c.in_default-host_of.ensures.none is.host is.one_host) is.same)

pub returns-in-Some-whole_value : goal.returns-in-Some-whole_value
returns-in-Some-whole_value c =
    let context = context_of c.args.context.now in
    let text = c.args.line.raw.now in
    let parts = parts_of c.in-Some.target in
    let host = c.in-Some-host_of.host.now in
    let found = c.in-Some.ensures.some in
    let texts : c.in-Some-whole_value.text.now ≡ value (32 ∷ text) = c.in-Some-whole_value.ensures.some ∙ sym (value_of_text text) in
    same_tests (IsTrue c.are_one_authority.result) (AreOneAuthority (scheme_in context parts) host (value (32 ∷ text))) (IsSameHost context text)
    (subst (λ (both : List ℕ × List ℕ). IsTrue c.are_one_authority.result ↔ AreOneAuthority both.0 host both.1) (λ i. (c.scheme_of.ensures i, texts i)) c.are_one_authority.ensures)
    (same_of_target context found.0 parts host text found.1 c.in-Some-host_of.ensures.some)

pub returns-in-None : goal.returns-in-None
returns-in-None c =
    let context = context_of c.args.context.now in
    let text = c.args.line.raw.now in
    let not : list_all is_visible (value (32 ∷ text)) ≡ false = ap (list_all is_visible) (value_of_text text) ∙ c.in-None.ensures.none in
    never_true (IsSameHost context text) (λ is. other_visible is.scheme is.host (value (32 ∷ text)) not is.same)

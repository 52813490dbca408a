use Rattle.std.proofs.Common.{◌≡◌, ◌↔◌, IsTrue, refl, subst, ◌∙◌, ℕ, List}
use Rattle.std.specs.Str.{str_to_ascii_lowercase}
use Rattle.component_values.specs.Context.{context_of}
use Rattle.derived_values.specs.Derived.{scheme_text}
use Rattle.whole_rewrites.specs.Targets.{AreOneAuthority}
use Rattle.whole_rewrites.specs.tools.Requests.{NamesOwn}
use Rattle.whole_rewrites.proofs.TargetPermitHosts.{one_visible, own_by_host}
use Rattle.whole_rewrites.proofs.TargetPermitTests.{never_true, same_tests}
use Rattle.whole_rewrites.proofs.permit_target.is_own_authority.Goals as goal

pub returns-in_default : goal.returns-in_default
returns-in_default c =
    let context = context_of c.args.context.now in
    never_true (NamesOwn context c.args.scheme.now c.args.authority.now)
    (λ own. one_visible (scheme_text context.scheme) own.host c.args.authority.now (c.in_default.ensures.none own.host own.one_host) own.same)

pub returns-then-eq_ignore_ascii_case : goal.returns-then-eq_ignore_ascii_case
returns-then-eq_ignore_ascii_case c =
    let context = context_of c.args.context.now in
    let host = c.in-Some.host.now in
    let lowered : str_to_ascii_lowercase c.scheme_text-configured.result.now ≡ scheme_text context.scheme = c.scheme_text-configured.ensures.lower in
    let same : str_to_ascii_lowercase c.args.scheme.now ≡ scheme_text context.scheme = c.if-eq_ignore_ascii_case.ensures.test.0 refl ∙ lowered in
    same_tests (IsTrue c.are_one_authority.result) (AreOneAuthority (scheme_text context.scheme) host c.args.authority.now) (NamesOwn context c.args.scheme.now c.args.authority.now)
    (subst (λ (scheme : List ℕ). IsTrue c.are_one_authority.result ↔ AreOneAuthority scheme host c.args.authority.now) lowered c.are_one_authority.ensures)
    (own_by_host context c.args.scheme.now c.args.authority.now host c.in-Some.ensures.some same)

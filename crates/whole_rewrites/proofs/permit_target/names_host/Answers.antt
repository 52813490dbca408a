use Rattle.std.proofs.Common.{IsTrue, ap, option_map, Bor, ℕ, List}
use Rattle.component_values.specs.Context.{context_of}
use Rattle.derived_values.specs.Views.{parts_of}
use Rattle.whole_rewrites.specs.Permitted.{NamesHost}
use Rattle.whole_rewrites.specs.Targets.{OfTarget}
use Rattle.whole_rewrites.specs.tools.Requests.{NamesOwn}
use Rattle.whole_rewrites.proofs.TargetPermitHosts.{names_of_target}
use Rattle.whole_rewrites.proofs.TargetPermitTests.{never_true, same_tests}
use Rattle.whole_rewrites.proofs.permit_target.names_host.Goals as goal

pub returns-in_default : goal.returns-in_default
returns-in_default c =
    let context = context_of c.args.context.now in
    never_true (OfTarget context.message (NamesHost context)) (λ of. c.in_default.ensures.none of.0 of.1 of.2)

pub returns-in-Some-authority : goal.returns-in-Some-authority
returns-in-Some-authority c =
    let context = context_of c.args.context.now in
    let scheme = c.in-Some-scheme.scheme.now in
    let authority = c.in-Some-authority.authority.now in
    let found = c.in-Some.ensures.some in
    same_tests (IsTrue c.is_own_authority.result) (NamesOwn context scheme authority) (OfTarget context.message (NamesHost context)) c.is_own_authority.ensures
    (names_of_target context found.0 (parts_of c.in-Some.target) scheme authority found.1
    (ap (option_map (λ (text : Bor (List ℕ)). text.now)) c.in-Some-scheme.is) (ap (option_map (λ (text : Bor (List ℕ)). text.now)) c.in-Some-authority.is))

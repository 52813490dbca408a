use Rattle.std.proofs.Common.{IsTrue}
use Rattle.std.specs.Str.{str_to_ascii_lowercase}
use Rattle.derived_values.specs.Views.{authority_parts}
use Rattle.whole_rewrites.specs.Targets.{AreOneAuthority}
use Rattle.whole_rewrites.specs.tools.Requests.{HaveOneValue}
use Rattle.whole_rewrites.proofs.TargetPermitAuthority.{by_parts}
use Rattle.whole_rewrites.proofs.TargetPermitTests.{same_tests}
use Rattle.whole_rewrites.proofs.permit_target.are_one_authority.Goals as goal

pub returns : goal.returns
returns c =
    let one = authority_parts c.in-Some.one in
    let other = authority_parts c.in-Some-authority_of.other in
    same_tests (IsTrue c.have_one_value.result) (HaveOneValue one other) (AreOneAuthority (str_to_ascii_lowercase c.args.scheme.now) c.args.one.now c.args.other.now) c.have_one_value.ensures
    (by_parts c.args.scheme.now c.args.one.now c.args.other.now one other c.in-Some.ensures.some c.in-Some-authority_of.ensures.some)

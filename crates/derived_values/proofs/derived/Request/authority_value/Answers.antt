use Rattle.std.proofs.Common.{ℕ, List, subst}
use Rattle.derived_values.specs.Views.{parts_of}
use Rattle.derived_values.specs.Derived.{AuthorityRow, named_authority}
use Rattle.derived_values.specs.tools.Requests.{request_parts}
use Rattle.derived_values.specs.tools.Values.{GivesAuthority}
use Rattle.derived_values.proofs.derived.Request.authority_value.Goals as goal

pub returns-in-Some : goal.returns-in-Some
returns-in-Some c =
    subst (λ (scheme : List ℕ). GivesAuthority (AuthorityRow scheme (named_authority (request_parts c.args.self) (parts_of c.args.target.now).authority)) c.judge_authority.result) c.scheme_of-scheme.ensures
    (rw c.in-Some.is c.judge_authority.ensures)

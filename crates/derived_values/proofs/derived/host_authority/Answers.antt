use Rattle.std.proofs.Common.{ℕ, List, Result, Ok, Err, sym, ap, subst, ◌∙◌}
use Rattle.std.specs.Str.{str_to_ascii_lowercase}
use Rattle.msg_head.specs.Values.{value}
use Rattle.derived_values.specs.declared.lack.Lack.{Lack}
use Rattle.derived_values.specs.declared.lack.Lack.TheVariants.{Underivable}
use Rattle.derived_values.specs.Derived.{AuthorityRow}
use Rattle.derived_values.specs.tools.Values.{GivesAuthority}
use Rattle.derived_values.proofs.Drawn.{none_named}
use Rattle.derived_values.proofs.derived.host_authority.Goals as goal

pub returns-in-Some : goal.returns-in-Some
returns-in-Some c =
    let scheme = str_to_ascii_lowercase c.args.scheme.now in
    subst (λ (named : Result (List ℕ) Lack). GivesAuthority (AuthorityRow scheme named) c.judge_authority.result) (ap Ok c.in-Some.ensures.some ∙ sym c.in_ok-line.ensures) c.judge_authority.ensures

pub returns-in-None : goal.returns-in-None
returns-in-None c =
    let scheme = str_to_ascii_lowercase c.args.scheme.now in
    subst (λ (named : Result (List ℕ) Lack). AuthorityRow scheme named (Err Underivable)) (sym c.in_ok-line.ensures) (none_named scheme (value c.in_ok-line.line.raw.now) c.in-None.ensures.none)

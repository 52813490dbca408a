use Rattle.derived_values.specs.Views.{authority_parts}
use Rattle.derived_values.proofs.Drawn.{authority_found}
use Rattle.derived_values.proofs.derived.judge_authority.Goals as goal

pub returns-in-Some : goal.returns-in-Some
returns-in-Some c = authority_found c.args.scheme.now c.args.text.now (authority_parts c.in-Some.authority) c.in-Some.ensures.some

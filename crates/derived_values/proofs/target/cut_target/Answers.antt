use Rattle.derived_values.proofs.Given.{none_more}
use Rattle.derived_values.proofs.TargetParts.{no_other_target}
use Rattle.derived_values.proofs.target.cut_target.Goals as goal

pub returns-clause-none : goal.returns-clause-none
returns-clause-none c = none_more c.cut_other.result
    (no_other_target c.args.method.now c.args.target.now (λ is. absurd (cc (c.if-is_connect.ensures.1 is)))) c.cut_other.ensures.none

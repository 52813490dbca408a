use Rattle.derived_values.proofs.Given.{none_more}
use Rattle.derived_values.proofs.TargetParts.{no_other}
use Rattle.derived_values.proofs.target.cut_other.Goals as goal

pub returns-clause-none : goal.returns-clause-none
returns-clause-none c = none_more c.cut_asterisk.result (no_other c.args.target.now c.in_default.ensures.none c.in_default-cut_absolute.ensures.none) c.cut_asterisk.ensures.none

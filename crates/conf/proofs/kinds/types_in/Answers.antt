use Rattle.conf.proofs.AddedLaws.{distinct_of}
use Rattle.conf.proofs.kinds.types_in.Goals as goal

pub returns-clause-distinct : goal.returns-clause-distinct
returns-clause-distinct c = distinct_of c.args.table.now.entries c.iter-name-items.ensures.ordered

use Rattle.sfv_read.proofs.Members.{members_shorter, members_step}
use Rattle.sfv_read.proofs.separated.AsListSeparated.empty.Goals as goal

pub returns-clause-shorter : goal.returns-clause-shorter
returns-clause-shorter c = members_shorter

pub returns-clause-loops : goal.returns-clause-loops
returns-clause-loops c = members_step

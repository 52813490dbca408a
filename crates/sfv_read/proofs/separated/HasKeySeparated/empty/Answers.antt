use Rattle.sfv_read.proofs.Members.{dict_members_shorter, dict_members_step}
use Rattle.sfv_read.proofs.separated.HasKeySeparated.empty.Goals as goal

pub returns-clause-shorter : goal.returns-clause-shorter
returns-clause-shorter c = dict_members_shorter

pub returns-clause-loops : goal.returns-clause-loops
returns-clause-loops c = dict_members_step

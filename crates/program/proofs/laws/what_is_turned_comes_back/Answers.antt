use Rattle.program.proofs.ReturnedLists.{come_back_where_turned}
use Rattle.program.proofs.laws.what_is_turned_comes_back.Goals as goal

pub returns : goal.returns
returns c = come_back_where_turned

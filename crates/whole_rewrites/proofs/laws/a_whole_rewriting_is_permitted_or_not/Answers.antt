use Rattle.whole_rewrites.proofs.WholePermits.{permits_whole_or_not, permitted_by_messages}
use Rattle.whole_rewrites.proofs.laws.a_whole_rewriting_is_permitted_or_not.Goals as goal

pub returns : goal.returns
returns c = record { decided = permits_whole_or_not; depends = permitted_by_messages }

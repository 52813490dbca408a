use Rattle.whole_rewrites.proofs.WholeLaws.{given_by_messages, gives_kind, gives_one, gives_or_not}
use Rattle.whole_rewrites.proofs.laws.a_whole_rewriting_gives_one_message.Goals as goal

pub returns : goal.returns
returns c = record { one = gives_one; some = gives_or_not; kind = gives_kind; depends = given_by_messages }

use Rattle.whole_rewrites.proofs.ContentSame.{same_where_permitted}
use Rattle.whole_rewrites.proofs.laws.content_sent_in_another_way_is_the_same.Goals as goal

pub returns : goal.returns
returns c = same_where_permitted

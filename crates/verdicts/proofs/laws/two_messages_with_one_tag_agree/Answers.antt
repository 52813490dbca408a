use Rattle.verdicts.proofs.OneTags.{one_tag_agrees, one_tag_agrees_where_alone}
use Rattle.verdicts.proofs.laws.two_messages_with_one_tag_agree.Goals as goal

pub returns : goal.returns
returns c = record { agree = one_tag_agrees; alone = one_tag_agrees_where_alone }
